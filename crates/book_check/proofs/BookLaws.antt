-- What the verdicts of the rows of a book, or of a network book, say of it.
use Rattle.std.proofs.Common.{◌≡◌, ℕ, ◌+◌, ◌⊎◌, ◌∙◌, ap, sym, refl, subst, arith, inl, inr}
use Rattle.std.proofs.Common.{Bool, true, false, cond, Option, Some, None, List, [], ◌∷◌, ◌++◌, length, count_by}
use Rattle.std.proofs.Common.{append_assoc, append-nil, Result, Ok, Err}
use Rattle.std.specs.Option.{option_or}
use Rattle.std.proofs.lemmas.List.Sums.{sum_by-append}
use Rattle.csv.specs.Reading.{AreRecords, default_config, strip_bom}
use Rattle.csv.specs.Machine.{next_record}
use Rattle.csv.specs.declared.parser.State.TheVariants as st
use Rattle.cbs_page.specs.declared.paging.Paged.{Paged}
use Rattle.cbs_page.specs.declared.paging.TextFault.{TextFault}
use Rattle.alert_book.specs.Book.{after_row, fault_at, rows_read_by, with_row}
use Rattle.alert_book.specs.Book.{sending_of, ArePagesOf, AreRowsBy, HasTextFaultBy, HavePages, HasWrongText}
use Rattle.alert_book.specs.Book.{IsRowFaultBy, Rows}
use Rattle.alert_book.specs.Judging.{Counted, counted_after, counted_with, known_after_row, name_written, next_meant}
use Rattle.alert_book.specs.Judging.{is_past, none_counted, none_within, row_judged, with_name}
use Rattle.alert_book.specs.Judging.{IsRightRow, IsVerdictOfRow}
use Rattle.alert_book.specs.Laws.{BooksAreRight}
use Rattle.alert_book.specs.Network.{groups_of, HasGroups, IsNetwork}
use Rattle.alert_book.specs.NetworkLaws.{NetworksAreRight}
use Rattle.alert_book.specs.declared.book.order.Order.{Order}
use Rattle.alert_book.specs.declared.book.row.Row.{Row}
use Rattle.alert_book.specs.declared.book.row.Row.TheVariants as rows
use Rattle.alert_book.specs.declared.fault.BookFault.{BookFault}
use Rattle.alert_book.specs.declared.fault.BookFaultKind.TheVariants as kind
use Rattle.alert_book.specs.declared.fault.RowFault.{RowFault}
use Rattle.alert_book.specs.declared.judging.bounds.Bounds.{Bounds}
use Rattle.alert_book.specs.declared.judging.bounds.Bounds.TheVariants as bounds
use Rattle.alert_book.specs.declared.judging.Verdict.{Verdict}
use Rattle.alert_book.specs.declared.judging.Verdict.TheVariants as verdict
use Rattle.alert_book.proofs.JudgedLaws.{right_room}
use Rattle.alert_book.proofs.JudgedNetworks.{judged_are_network, judged_are_wrong}
use Rattle.alert_book.proofs.RowNumbers.{order_has_row}
use Rattle.book_check.specs.Checked.{counted_of, AreVerdictsBy, EndsPast, IsCheckedBy}
use Rattle.book_check.specs.Laws.{first_fault, first_unsendable, first_wrong, BooksAreClean, CleanAreBooks}
use Rattle.book_check.specs.Laws.{CleanAreNetworks, FaultsHaveAFirst, FirstIsTheBooks, FirstIsTheNetworks}
use Rattle.book_check.specs.Laws.{NetworksAreClean}
use Rattle.book_check.specs.Told.{AreVerdicts, is_told}

-- what counts after a row that is right
right_counts : (before : Counted) (fields : List (List ℕ)) (meant : Row) → next_meant before fields ≡ Ok meant
    → counted_after before fields ≡ counted_with before.bounds (before.rows + 1) (with_row before.known meant)
right_counts before fields meant right = rw (right_room before fields meant right, right) refl

-- what rows mean by their first fault
abbrev read_as : Option BookFault → Rows → Result Rows BookFault
read_as None known = Ok known
read_as (Some f) known = Err f

-- the rows are read up to the first that has a fault of its own
abbrev Reads : Counted → List (List (List ℕ)) → List Verdict → Type 0
Reads before records verdicts =
    rows_read_by (row_judged before.bounds) (before.rows + 1) before.known records
    ≡ read_as (first_wrong (before.rows + 1) verdicts) (counted_of before records).known

right_reads : (before : Counted) (fields : List (List ℕ)) (records : List (List (List ℕ))) (more : List Verdict)
    (meant : Row) → next_meant before fields ≡ Ok meant
    → Reads (counted_after before fields) records more
    → rows_read_by (row_judged before.bounds) (before.rows + 1) before.known (fields ∷ records)
    ≡ read_as (first_wrong (before.rows + 1 + 1) more) (counted_of (counted_after before fields) records).known
right_reads before fields records more meant right later =
    let next = right_counts before fields meant right in
    ap (λ (r : Result Row RowFault). after_row (before.rows + 1) before.known r
    (λ known. rows_read_by (row_judged before.bounds) (before.rows + 1 + 1) known records)) right
    ∙ subst (λ (c : Counted). rows_read_by (row_judged c.bounds) (c.rows + 1) c.known records
    ≡ read_as (first_wrong (c.rows + 1) more) (counted_of (counted_after before fields) records).known) next later

-- rows are read as their verdicts say: up to the first that is wrong
pub reads : (before : Counted) (records : List (List (List ℕ))) (verdicts : List Verdict)
    → AreVerdicts before records verdicts → Reads before records verdicts
reads before [] [] are = refl
reads before [] (told ∷ more) are = absurd are
reads before (fields ∷ records) [] are = absurd are
reads before (fields ∷ records) (verdict.Right ∷ more) are =
    right_reads before fields records more are.0.meant are.0.right
    (reads (counted_after before fields) records more are.1)
reads before (fields ∷ records) (verdict.Wrong found ∷ more) are =
    ap (λ (r : Result Row RowFault). after_row (before.rows + 1) before.known r
    (λ known. rows_read_by (row_judged before.bounds) (before.rows + 1 + 1) known records)) are.0.wrong
reads before (fields ∷ records) (verdict.Unsendable why ∷ more) are =
    right_reads before fields records more are.0.meant are.0.right
    (reads (counted_after before fields) records more are.1)

-- a row without a fault of its own isn't one too many
right_last : (before : Counted) (fields : List (List ℕ)) (records : List (List (List ℕ))) (meant : Row)
    → next_meant before fields ≡ Ok meant → (EndsPast (counted_after before fields) records → ⊥)
    → EndsPast before (fields ∷ records) → ⊥
right_last before fields records meant right later (inl last) =
    let room = right_room before fields meant right in
    let both : true ≡ false = sym last.1 ∙ room in
    cc
right_last before fields records meant right later (inr more) = later more

-- so rows without one don't end with it
not_past : (before : Counted) (records : List (List (List ℕ))) (verdicts : List Verdict) (row : ℕ)
    → AreVerdicts before records verdicts → first_wrong row verdicts ≡ None → EndsPast before records → ⊥
not_past before [] verdicts row are none past = past
not_past before (fields ∷ records) [] row are none past = absurd are
not_past before (fields ∷ records) (verdict.Right ∷ more) row are none past =
    right_last before fields records are.0.meant are.0.right
    (not_past (counted_after before fields) records more (row + 1) are.1 none) past
not_past before (fields ∷ records) (verdict.Wrong found ∷ more) row are none past = absurd (cc none)
not_past before (fields ∷ records) (verdict.Unsendable why ∷ more) row are none past =
    right_last before fields records are.0.meant are.0.right
    (not_past (counted_after before fields) records more (row + 1) are.1 none) past

-- so these are all records of the octets
all_records : (bound : Bounds) (input : List ℕ) (verdicts : List Verdict) (are : AreVerdictsBy bound input verdicts)
    → first_wrong 1 verdicts ≡ None → AreRecords default_config st.StartRecord (strip_bom input) are.records
all_records bound input verdicts are none = by_end are.whole
  where
    by_end : (next_record default_config are.state [] [] are.rest ≡ None) ⊎ EndsPast (none_within bound) are.records
        → AreRecords default_config st.StartRecord (strip_bom input) are.records
    by_end (inl ended) = (are.state, are.rest, are.read, ended)
    by_end (inr long) = absurd (not_past (none_within bound) are.records verdicts 1 are.each none long)

-- orders stay, and others come behind them
abbrev Extends : (old new : List Order) → Type 0
Extends old new = (more : List Order) × (new ≡ old ++ more)

one_behind : (old : List Order) (order : Order) → Extends old (old ++ order ∷ [])
one_behind old order = (order ∷ [], refl)

row_extends : (row : ℕ) (before : Rows) (fields : List (List ℕ)) (meant : Result Row RowFault)
    → Extends before.orders (known_after_row row before fields meant).orders
row_extends row before fields (Ok (rows.Declare cell)) = ([], sym (append-nil before.orders))
row_extends row before fields (Ok (rows.Give order)) = (order ∷ [], refl)
row_extends row before fields (Err fault) = by_name (name_written before.orders fields)
  where
    by_name : (name : Option (List ℕ)) → Extends before.orders (with_name row before name).orders
    by_name None = ([], sym (append-nil before.orders))
    by_name (Some name) = (_, refl)

counted_extends : (before : Counted) (fields : List (List ℕ))
    → Extends before.known.orders (counted_after before fields).known.orders
counted_extends before fields = by_room (is_past before fields)
  where
    by_room : (full : Bool) → Extends before.known.orders (cond full before
        (counted_with before.bounds (before.rows + 1)
        (known_after_row (before.rows + 1) before.known fields (next_meant before fields)))).known.orders
    by_room true = ([], sym (append-nil before.known.orders))
    by_room false = row_extends (before.rows + 1) before.known fields (next_meant before fields)

joins : (a b c : List Order) → Extends a b → Extends b c → Extends a c
joins a b c ab bc =
    (ab.0 ++ bc.0, bc.1 ∙ ap (λ (os : List Order). os ++ bc.0) ab.1 ∙ append_assoc a ab.0 bc.0)

all_extend : (before : Counted) (records : List (List (List ℕ)))
    → Extends before.known.orders (counted_of before records).known.orders
all_extend before [] = ([], sym (append-nil before.known.orders))
all_extend before (fields ∷ records) =
    joins before.known.orders (counted_after before fields).known.orders
    (counted_of before (fields ∷ records)).known.orders
    (counted_extends before fields) (all_extend (counted_after before fields) records)

-- the pages of orders, and of one more
pages_more : (orders : List Order) (pages : List (Option Paged)) (order : Order) (paged : Option Paged)
    → HavePages orders pages → ArePagesOf (sending_of order.action) paged
    → HavePages (orders ++ order ∷ []) (pages ++ paged ∷ [])
pages_more [] [] order paged have here = (here, tt)
pages_more [] (p ∷ pages) order paged have here = absurd have
pages_more (o ∷ orders) [] order paged have here = absurd have
pages_more (o ∷ orders) (p ∷ pages) order paged have here = (have.0, pages_more orders pages order paged have.1 here)

-- some pages are those of these orders
abbrev Paged_are : List Order → Type 0
Paged_are orders = (pages : List (Option Paged)) × HavePages orders pages

right_paged : (before : Counted) (fields : List (List ℕ)) (right : IsRightRow before fields verdict.Right)
    → Paged_are before.known.orders → Paged_are (counted_after before fields).known.orders
right_paged before fields right have =
    subst (λ (c : Counted). Paged_are c.known.orders) (sym (right_counts before fields right.meant right.right))
    (by_row right.meant right.text)
  where
    by_row : (meant : Row) → IsVerdictOfRow meant verdict.Right → Paged_are (with_row before.known meant).orders
    by_row (rows.Declare cell) text = have
    by_row (rows.Give order) text =
        (have.0 ++ text.0 ∷ [], pages_more before.known.orders have.0 order text.0 have.1 text.1)

-- where no text has a fault, the orders have pages
all_paged : (before : Counted) (records : List (List (List ℕ))) (verdicts : List Verdict) (row : ℕ)
    → AreVerdicts before records verdicts → Paged_are before.known.orders
    → first_wrong row verdicts ≡ None → first_unsendable row verdicts ≡ None
    → Paged_are (counted_of before records).known.orders
all_paged before [] [] row are have right sent = have
all_paged before [] (told ∷ more) row are have right sent = absurd are
all_paged before (fields ∷ records) [] row are have right sent = absurd are
all_paged before (fields ∷ records) (verdict.Right ∷ more) row are have right sent =
    all_paged (counted_after before fields) records more (row + 1) are.1 (right_paged before fields are.0 have) right
    sent
all_paged before (fields ∷ records) (verdict.Wrong found ∷ more) row are have right sent = absurd cc
all_paged before (fields ∷ records) (verdict.Unsendable why ∷ more) row are have right sent = absurd cc

-- the first text that has one is that of the orders
text_here : (before : Counted) (fields : List (List ℕ)) (records : List (List (List ℕ))) (why : TextFault)
    (right : IsRightRow before fields (verdict.Unsendable why)) → Paged_are before.known.orders
    → HasWrongText (counted_of (counted_after before fields) records).known.orders
    (fault_at (before.rows + 1) (kind.Text why))
text_here before fields records why right have = by_row right.meant right.right right.text
  where
    by_row : (meant : Row) → next_meant before fields ≡ Ok meant → IsVerdictOfRow meant (verdict.Unsendable why)
        → HasWrongText (counted_of (counted_after before fields) records).known.orders
        (fault_at (before.rows + 1) (kind.Text why))
    by_row (rows.Declare cell) is text = absurd text
    by_row (rows.Give order) is text =
        let next = right_counts before fields (rows.Give order) is in
        let more = all_extend (counted_after before fields) records in
        record {
          before = before.known.orders;
          order = order;
          after = more.0;
          split = more.1 ∙ ap (λ (c : Counted). c.known.orders ++ more.0) next
              ∙ append_assoc before.known.orders (order ∷ []) more.0;
          pages = have.0;
          paged = have.1;
          sending = text.sending;
          sent = text.sent;
          why = why;
          wrong = text.wrong;
          told = text.told;
          named = ap (λ n. fault_at n (kind.Text why)) (sym (order_has_row before.bounds (before.rows + 1)
              before.known.cells
              before.known.orders fields order is));
        }

text_wrong : (before : Counted) (records : List (List (List ℕ))) (verdicts : List Verdict) (f : BookFault)
    → AreVerdicts before records verdicts → Paged_are before.known.orders
    → first_wrong (before.rows + 1) verdicts ≡ None → first_unsendable (before.rows + 1) verdicts ≡ Some f
    → HasWrongText (counted_of before records).known.orders f
text_wrong before [] [] f are have right sent = absurd cc
text_wrong before [] (told ∷ more) f are have right sent = absurd are
text_wrong before (fields ∷ records) [] f are have right sent = absurd are
text_wrong before (fields ∷ records) (verdict.Right ∷ more) f are have right sent =
    let next = right_counts before fields are.0.meant are.0.right in
    let rows : before.rows + 1 ≡ (counted_after before fields).rows = ap (λ (c : Counted). c.rows) (sym next) in
    text_wrong (counted_after before fields) records more f are.1 (right_paged before fields are.0 have)
    (subst (λ n. first_wrong (n + 1) more ≡ None) rows right)
    (subst (λ n. first_unsendable (n + 1) more ≡ Some f) rows sent)
text_wrong before (fields ∷ records) (verdict.Wrong found ∷ more) f are have right sent = absurd cc
text_wrong before (fields ∷ records) (verdict.Unsendable why ∷ more) f are have right sent =
    let same : fault_at (before.rows + 1) (kind.Text why) ≡ f = cc in
    subst (λ (g : BookFault). HasWrongText (counted_of (counted_after before fields) records).known.orders g) same
    (text_here before fields records why are.0 have)

-- nothing is told where there is no first fault, and there is none where nothing is told
none_told : (verdicts : List Verdict) (row : ℕ) → first_wrong row verdicts ≡ None
    → first_unsendable row verdicts ≡ None → count_by is_told verdicts ≡ 0
none_told [] row right sent = refl
none_told (verdict.Right ∷ more) row right sent = none_told more (row + 1) right sent
none_told (verdict.Wrong found ∷ more) row right sent = absurd cc
none_told (verdict.Unsendable why ∷ more) row right sent = absurd cc

none_first : (verdicts : List Verdict) (row : ℕ) → count_by is_told verdicts ≡ 0
    → (first_wrong row verdicts ≡ None) × (first_unsendable row verdicts ≡ None)
none_first [] row none = (refl, refl)
none_first (verdict.Right ∷ more) row none = none_first more (row + 1) none
none_first (verdict.Wrong found ∷ more) row none =
    let one = sum_by-append (λ (v : Verdict). cond (is_told v) 1 0) (verdict.Wrong found ∷ []) more in
    absurd (omega (arith, none, one))
none_first (verdict.Unsendable why ∷ more) row none =
    let one = sum_by-append (λ (v : Verdict). cond (is_told v) 1 0) (verdict.Unsendable why ∷ []) more in
    absurd (omega (arith, none, one))

either_first : (wrong text : Option BookFault) → option_or wrong text ≡ None → (wrong ≡ None) × (text ≡ None)
either_first None text none = (refl, none)
either_first (Some f) text none = absurd cc

-- if no fault is the first, none is told
pub faults_have_a_first : FaultsHaveAFirst
faults_have_a_first verdicts none =
    let both = either_first (first_wrong 1 verdicts) (first_unsendable 1 verdicts) none in
    none_told verdicts 1 both.0 both.1

-- the octets mean what counts of their rows
meant_of : (bound : Bounds) (input : List ℕ) (verdicts : List Verdict) (are : AreVerdictsBy bound input verdicts)
    → first_wrong 1 verdicts ≡ None
    → AreRowsBy (row_judged bound) input (counted_of (none_within bound) are.records).known
meant_of bound input verdicts are none = record {
  records = are.records;
  read = all_records bound input verdicts are none;
  meant = reads (none_within bound) are.records verdicts are.each
      ∙ ap (λ (o : Option BookFault). read_as o (counted_of (none_within bound) are.records).known) none;
}

-- the rows and the pages of octets of which nothing is told
record IsRight (bound : Bounds) (input : List ℕ) (known : Rows) : Type 0 where
  pub rows : AreRowsBy (row_judged bound) input known
  pub paged : Paged_are known.orders

clean_is_right : (bound : Bounds) (input output : List ℕ) (clean : IsCheckedBy bound input 0 output)
    → IsRight bound input (counted_of (none_within bound) clean.are.records).known
clean_is_right bound input output clean =
    let firsts = none_first clean.verdicts 1 clean.counted in
    record {
      rows = meant_of bound input clean.verdicts clean.are firsts.0;
      paged = all_paged (none_within bound) clean.are.records clean.verdicts 1 clean.are.each ([], tt) firsts.0
          firsts.1;
    }

-- a book of which nothing is told is an alert book
pub clean_are_books : CleanAreBooks
clean_are_books input output clean =
    let right = clean_is_right bounds.Book input output clean in
    let known : Rows = (counted_of none_counted clean.are.records).known in (
      record { cells = known.cells; orders = known.orders; pages = right.paged.0 },
      record { bounded = clean.bounded; rows = right.rows; paged = right.paged.1 },
    )

-- a network book of which nothing is told is one for each group, with the cells that count
pub clean_is_network : (group : ℕ) (input output : List ℕ) (clean : IsCheckedBy bounds.Network input 0 output)
    → (rows : Rows) × IsNetwork group input rows
    × (rows.cells ≡ (counted_of (none_within bounds.Network) clean.are.records).known.cells)
clean_is_network group input output clean =
    let right = clean_is_right bounds.Network input output clean in
    judged_are_network group input (counted_of (none_within bounds.Network) clean.are.records).known right.paged.0
    clean.bounded right.rows right.paged.1

-- so it is a network book
pub clean_are_networks : CleanAreNetworks
clean_are_networks group input output clean =
    let is = clean_is_network group input output clean in (is.0, is.1)

-- the first fault that is told is that of a row, or else of a text
first_is : (bound : Bounds) (input : List ℕ) (verdicts : List Verdict) (is : AreVerdictsBy bound input verdicts)
    (f : BookFault) → first_fault verdicts ≡ Some f
    → IsRowFaultBy (row_judged bound) input f ⊎ HasTextFaultBy (row_judged bound) input f
first_is bound input verdicts is f first = by_wrong (first_wrong 1 verdicts) refl
  where
    by_wrong : (wrong : Option BookFault) → first_wrong 1 verdicts ≡ wrong
        → IsRowFaultBy (row_judged bound) input f ⊎ HasTextFaultBy (row_judged bound) input f
    by_wrong None none =
        let sent : first_unsendable 1 verdicts ≡ Some f = rw none at first in
        inr (record {
          rows = (counted_of (none_within bound) is.records).known;
          meant = meant_of bound input verdicts is none;
          wrong = text_wrong (none_within bound) is.records verdicts f is.each ([], tt) none sent;
        })
    by_wrong (Some g) some =
        let same : Some g ≡ Some f = rw some at first in
        inl (record {
          records = is.records;
          state = is.state;
          rest = is.rest;
          read = is.read;
          wrong = reads (none_within bound) is.records verdicts is.each
              ∙ ap (λ (o : Option BookFault). read_as o (counted_of (none_within bound) is.records).known)
              (some ∙ same);
        })

-- the first fault that is told is the one for which the octets are no alert book
pub first_is_the_books : FirstIsTheBooks
first_is_the_books input output count checked f first =
    (checked.bounded, first_is bounds.Book input checked.verdicts checked.are f first)

-- and no network book
pub first_is_the_networks : FirstIsTheNetworks
first_is_the_networks group input output count checked f first =
    judged_are_wrong group input f checked.bounded
    (first_is bounds.Network input checked.verdicts checked.are f first)

-- nothing is told of an alert book
pub books_are_clean : BooksAreRight → BooksAreClean
books_are_clean right input output count book is checked =
    by_first (first_fault checked.verdicts) refl
  where
    by_first : (first : Option BookFault) → first_fault checked.verdicts ≡ first → count ≡ 0
    by_first None none = sym checked.counted ∙ faults_have_a_first checked.verdicts none
    by_first (Some f) some =
        absurd (right input book f is (first_is_the_books input output count checked f some))

-- nor of a network book
pub networks_are_clean : NetworksAreRight → NetworksAreClean
networks_are_clean right group input output count rows is checked =
    by_first (first_fault checked.verdicts) refl
  where
    has : HasGroups group input (groups_of (length rows.cells))
    has = record { rows = rows; network = is; count = refl }

    by_first : (first : Option BookFault) → first_fault checked.verdicts ≡ first → count ≡ 0
    by_first None none = sym checked.counted ∙ faults_have_a_first checked.verdicts none
    by_first (Some f) some =
        absurd (right group group input (groups_of (length rows.cells)) f has
        (first_is_the_networks group input output count checked f some))
