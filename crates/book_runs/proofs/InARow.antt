-- Runs of parts of a book, which have its cells one after the other, are a run of it.
use Rattle.std.proofs.Common.{◌≡◌, ℕ, Bool, true, false, not, ◌||◌, Option, None, List, [], ◌∷◌, ◌++◌, get_or}
use Rattle.std.proofs.Common.{filter, map, refl, ap, sym, subst, ◌∙◌, inl, inr}
use Rattle.std.specs.List.{All, flat_map, list_all, list_any}
use Rattle.std.proofs.lemmas.Bool.{and_from, and_parts, both_ways, cases_Bool, not-true, or_parts}
use Rattle.std.proofs.lemmas.List.Elements.{All-cons, All-filter, All-head, All-map, All-nil, All-tail, All-weaker}
use Rattle.std.proofs.lemmas.List.Elements.{filter_passes}
use Rattle.std.proofs.lemmas.List.Folds.{list_any-append}
use Rattle.cbs_page.specs.declared.paging.Paged.{Paged}
use Rattle.cbsp_wire.specs.declared.message.Cell.{Cell}
use Rattle.cbsp_wire.specs.CellLists.{contains}
use Rattle.cbsp_wire.specs.Range.{are_distinct, is_cell, is_nothing}
use Rattle.cbsp_wire.proofs.CellLists.{is_itself, same_cell}
use Rattle.alert_book.specs.declared.book.order.Order.{Order}
use Rattle.alert_book.specs.Book.{Contents}
use Rattle.alert_book.specs.Cells.{is_among}
use Rattle.alert_book.specs.Network.{cells_of_action}
use Rattle.alert_book.specs.Session.{orders_with}
use Rattle.bsc_table.specs.Record.{Record}
use Rattle.book_runs.specs.CellParts.{PartRun, IsPartRun}
use Rattle.alert_book.specs.Restricted.{Keep, PagedOrder, in_part, is_for_some, kept_orders}
use Rattle.alert_book.specs.Restricted.{kept_paged}
use Rattle.book_runs.specs.CellParts.{leave, merged}
use Rattle.alert_book.specs.Restricted.{restricted}
use Rattle.book_runs.specs.Run.{Exchange, IsExchange, IsRun, IsRunOfBook}
use Rattle.alert_book.specs.Session.{after_reply, is_of_part, standing_with}
use Rattle.alert_book.specs.Turns.{begun}
use Rattle.alert_book.specs.NetworkLaws.{BooksAreNetworks}
use Rattle.alert_book.specs.Laws.{CellsAreValid}
use Rattle.alert_book.proofs.RightOrders.{distinct_filter}
use Rattle.std.specs.Prelude.{nat_le, length}
use Rattle.std.proofs.lemmas.List.Concat.{flat_map-append}
use Rattle.cbch_blocks.specs.RecordBlocks.{tape_of_record}
use Rattle.book_runs.specs.CellParts.{PartsInARow, TapesInARow}
use Rattle.book_runs.proofs.CellLists.{any_first}
use Rattle.book_runs.proofs.JoinedRuns.{IsForCells, orders_for_cells, whole_run}
use Rattle.book_runs.proofs.OrdersWithin.{IsWithin, orders_within}
use Rattle.book_runs.proofs.Twice.{AreWithin, kept_cells_of, restricted_twice}

-- of distinct cells none of the first is one of the later
apart_from_front : (c : Cell) (front rest : List Cell) → are_distinct (front ++ rest) ≡ true
    → contains rest c ≡ true → contains front c ≡ false
apart_from_front c [] rest distinct there = refl
apart_from_front c (d ∷ front) rest distinct there =
    let parts = and_parts (not (list_any (is_cell d) (front ++ rest))) (are_distinct (front ++ rest)) distinct in
    let alone : list_any (is_cell d) (front ++ rest) ≡ false = not-true (list_any (is_cell d) (front ++ rest))
    parts.0 in
    let later = or_parts (list_any (is_cell d) front) (list_any (is_cell d) rest)
    (sym (list_any-append (is_cell d) front rest) ∙ alone) in
    elim (cases_Bool (is_cell c d)) [
      | inl same ↦ absurd (both_ways (list_any (is_cell d) rest) later.1
          (subst (λ (x : Cell). contains rest x ≡ true) (same_cell c d same) there))
      | inr other ↦ rw (other, apart_from_front c front rest parts.1 there) refl
    ]

-- a filter by the first keeps these, and by the others the later ones
keeps_front : (keep : Keep) (front rest : List Cell) → All (λ c. keep c ≡ true) front
    → All (λ c. keep c ≡ false) rest → filter keep (front ++ rest) ≡ front
keeps_front keep [] [] mine others = refl
keeps_front keep [] (r ∷ rest) mine others =
    rw (All-head (λ (c : Cell). keep c ≡ false) r rest others)
    (keeps_front keep [] rest mine (All-tail (λ (c : Cell). keep c ≡ false) r rest others))
keeps_front keep (c ∷ front) rest mine others =
    rw (All-head (λ (d : Cell). keep d ≡ true) c front mine)
    (ap (λ (l : List Cell). c ∷ l)
    (keeps_front keep front rest (All-tail (λ (d : Cell). keep d ≡ true) c front mine) others))

leaves_rest : (keep : Keep) (front rest : List Cell) → All (λ c. keep c ≡ true) front
    → All (λ c. keep c ≡ false) rest → filter (leave keep) (front ++ rest) ≡ rest
leaves_rest keep [] [] mine others = refl
leaves_rest keep [] (r ∷ rest) mine others =
    rw (All-head (λ (c : Cell). keep c ≡ false) r rest others)
    (ap (λ (l : List Cell). r ∷ l)
    (leaves_rest keep [] rest mine (All-tail (λ (c : Cell). keep c ≡ false) r rest others)))
leaves_rest keep (c ∷ front) rest mine others =
    rw (All-head (λ (d : Cell). keep d ≡ true) c front mine)
    (leaves_rest keep front rest (All-tail (λ (d : Cell). keep d ≡ true) c front mine) others)

later_cells : (y : Record) (ys : List Record) (r : Cell) (rest : List Cell)
    → map (λ (x : Record). x.cell) (y ∷ ys) ≡ r ∷ rest → map (λ (x : Record). x.cell) ys ≡ rest
later_cells y ys r rest is = cc

-- what is of the first cells is merged before what is of the later ones
merged_later : (keep : Keep) (rest : List Cell) (ys : List Record) → All (λ c. keep c ≡ false) rest
    → map (λ r. r.cell) ys ≡ rest → merged keep rest [] ys ≡ ys
merged_later keep [] [] others two = refl
merged_later keep [] (y ∷ ys) others two = absurd (cc)
merged_later keep (r ∷ rest) [] others two = absurd (cc)
merged_later keep (r ∷ rest) (y ∷ ys) others two =
    let later : map (λ (x : Record). x.cell) ys ≡ rest = later_cells y ys r rest two in
    rw (All-head (λ (c : Cell). keep c ≡ false) r rest others)
    (ap (λ (l : List Record). y ∷ l)
    (merged_later keep rest ys (All-tail (λ (c : Cell). keep c ≡ false) r rest others) later))

merged_row : (keep : Keep) (front rest : List Cell) (xs ys : List Record) → All (λ c. keep c ≡ true) front
    → All (λ c. keep c ≡ false) rest → map (λ r. r.cell) xs ≡ front → map (λ r. r.cell) ys ≡ rest
    → merged keep (front ++ rest) xs ys ≡ xs ++ ys
merged_row keep [] rest [] ys mine others one two = merged_later keep rest ys others two
merged_row keep [] rest (x ∷ xs) ys mine others one two = absurd (cc)
merged_row keep (c ∷ front) rest [] ys mine others one two = absurd (cc)
merged_row keep (c ∷ front) rest (x ∷ xs) ys mine others one two =
    rw (All-head (λ (d : Cell). keep d ≡ true) c front mine)
    (ap (λ (l : List Record). x ∷ l)
    (merged_row keep front rest xs ys (All-tail (λ (d : Cell). keep d ≡ true) c front mine) others
    (later_cells x xs c front one) two))

-- the tests of a part
all_in_part : (more part : List Cell) → ((c : Cell) → contains part c ≡ true → contains more c ≡ true)
    → All (λ c. in_part more c ≡ true) part
all_in_part more [] so = All-nil (λ (c : Cell). in_part more c ≡ true)
all_in_part more (c ∷ part) so =
    All-cons (λ (d : Cell). in_part more d ≡ true) c part (so c (rw (is_itself c) refl))
    (all_in_part more part (λ d there. so d (or_second (is_cell d c) (contains part d) there)))
  where
    or_second : (a b : Bool) → b ≡ true → (a || b) ≡ true
    or_second true b there = refl
    or_second false b there = there

none_in_part : (front rest : List Cell) → are_distinct (front ++ rest) ≡ true
    → All (λ c. in_part front c ≡ false) rest
none_in_part front rest distinct =
    All-weaker (λ (c : Cell). in_part rest c ≡ true) (λ (c : Cell). in_part front c ≡ false)
    (λ c there. apart_from_front c front rest distinct there) rest
    (all_in_part rest rest (λ c there. there))

-- the later cells are distinct, too
distinct_rest : (front rest : List Cell) → are_distinct (front ++ rest) ≡ true → are_distinct rest ≡ true
distinct_rest [] rest distinct = distinct
distinct_rest (c ∷ front) rest distinct =
    distinct_rest front rest
    (and_parts (not (list_any (is_cell c) (front ++ rest))) (are_distinct (front ++ rest)) distinct).1

-- the cells of parts one after the other
abbrev pub cells_in : List PartRun → List Cell
cells_in parts = flat_map (λ part. part.cells) parts

-- the records of parts, one after the other
abbrev pub records_in : List PartRun → List Record
records_in parts = flat_map (λ part. part.records) parts

or_either : (a b : Bool) → (a ≡ true → (a || b) ≡ true) × (b ≡ true → (a || b) ≡ true)
or_either true b = (λ one. refl, λ two. refl)
or_either false b = (λ one. absurd (cc), λ two. two)

part_of_all : (parts : List PartRun)
    → All (λ part. (c : Cell) → contains part.cells c ≡ true → contains (cells_in parts) c ≡ true) parts
part_of_all [] = All-nil (λ (part : PartRun). (c : Cell) → contains part.cells c ≡ true → contains [] c ≡ true)
part_of_all (p ∷ parts) =
    All-cons (λ (part : PartRun). (c : Cell) → contains part.cells c ≡ true → contains (cells_in (p ∷ parts)) c ≡ true)
    p parts
    (λ c there. list_any-append (is_cell c) p.cells (cells_in parts)
    ∙ (or_either (contains p.cells c) (contains (cells_in parts) c)).0 there)
    (All-weaker (λ (part : PartRun). (c : Cell) → contains part.cells c ≡ true → contains (cells_in parts) c ≡ true)
    (λ (part : PartRun). (c : Cell) → contains part.cells c ≡ true → contains (cells_in (p ∷ parts)) c ≡ true)
    (λ part so c there. list_any-append (is_cell c) p.cells (cells_in parts)
    ∙ (or_either (contains p.cells c) (contains (cells_in parts) c)).1 (so c there)) parts (part_of_all parts))

-- the parts of a book are parts of the book of the later cells
parts_later : (book : Contents) (slots : ℕ) (front : List Cell) (parts : List PartRun)
    → are_distinct (front ++ cells_in parts) ≡ true → All (IsPartRun book slots) parts
    → All (IsPartRun (restricted (leave (in_part front)) book) slots) parts
parts_later book slots front parts distinct runs = λ k d within.
    let part : PartRun = get_or parts k d in
    let so : AreWithin (in_part part.cells) (leave (in_part front)) = λ c there.
    ap not (apart_from_front c front (cells_in parts) distinct (part_of_all parts k d within c there)) in
    subst (λ (b : Contents). IsRun b slots part.exchanges part.records)
    (sym (restricted_twice (in_part part.cells) (leave (in_part front)) so book)) (runs k d within)

-- the orders of the book of some cells are for some, and for its cells
filtered_within : (keep : Keep) (cells asked : List Cell) → list_all (is_among cells) asked ≡ true
    → list_all (is_among (filter keep cells)) (filter keep asked) ≡ true
filtered_within keep cells [] all = refl
filtered_within keep cells (c ∷ asked) all =
    let parts = and_parts (is_among cells c) (list_all (is_among cells) asked) all in
    let rest = filtered_within keep cells asked parts.1 in elim (cases_Bool (keep c)) [
      | inl own ↦ rw own (and_from (is_among (filter keep cells) c)
          (list_all (is_among (filter keep cells)) (filter keep asked))
          (any_first (λ d. is_cell d c) keep
          (λ d same. subst (λ (e : Cell). keep e ≡ true) (sym (same_cell d c same)) own) cells ∙ parts.0) rest)
      | inr other ↦ rw other rest
    ]

paired_within : (cells : List Cell) (orders : List Order) (pages : List (Option Paged)) → All (IsWithin cells) orders
    → All (λ o. IsWithin cells o.0) (orders_with orders pages)
paired_within cells [] pages each = All-nil (λ (o : PagedOrder). IsWithin cells o.0)
paired_within cells (o ∷ orders) [] each = All-nil (λ (o : PagedOrder). IsWithin cells o.0)
paired_within cells (o ∷ orders) (p ∷ pages) each =
    All-cons (λ (x : PagedOrder). IsWithin cells x.0) (o, p) (orders_with orders pages)
    (All-head (IsWithin cells) o orders each)
    (paired_within cells orders pages (All-tail (IsWithin cells) o orders each))

restricted_within : (keep : Keep) (book : Contents) → All (IsWithin book.cells) book.orders
    → All (IsWithin (filter keep book.cells)) (restricted keep book).orders
restricted_within keep book within =
    let pairs : List PagedOrder = orders_with book.orders book.pages in
    let Good : PagedOrder → Type 0 = λ o. IsWithin (filter keep book.cells) o.0 in
    All-map (IsWithin (filter keep book.cells)) (λ (o : PagedOrder). o.0) (kept_orders keep pairs)
    (All-filter is_for_some Good (map (kept_paged keep) pairs)
    (All-map Good (kept_paged keep) pairs
    (All-weaker (λ (o : PagedOrder). IsWithin book.cells o.0) (λ (o : PagedOrder). Good (kept_paged keep o))
    (λ o is. ap (list_all (is_among (filter keep book.cells))) (kept_cells_of keep o.0.action)
    ∙ filtered_within keep book.cells (cells_of_action o.0.action) is) pairs
    (paired_within book.cells book.orders book.pages within))))

restricted_for : (keep : Keep) (book : Contents) → All IsForCells (restricted keep book).orders
restricted_for keep book =
    let pairs : List PagedOrder = orders_with book.orders book.pages in
    All-map IsForCells (λ (o : PagedOrder). o.0) (kept_orders keep pairs)
    (filter_passes is_for_some (map (kept_paged keep) pairs))

-- a book without cells has no orders, and its run is empty
no_orders : (orders : List Order) → All IsForCells orders → All (IsWithin []) orders → orders ≡ []
no_orders [] some within = refl
no_orders (o ∷ orders) some within =
    absurd (none (cells_of_action o.action) (All-head IsForCells o orders some) (All-head (IsWithin []) o orders
    within))
  where
    none : (cells : List Cell) → not (is_nothing cells) ≡ true → list_all (is_among []) cells ≡ true → ⊥
    none [] some within = absurd (cc)
    none (c ∷ cells) some within = absurd (cc)

no_run : (book : Contents) (slots : ℕ) → book.cells ≡ [] → book.orders ≡ [] → IsRun book slots [] []
no_run book slots cells orders = record {
  session = record {
    reached = begun book 0 1;
    gone = refl;
    over = ap (λ (l : List Order). (after_reply None (standing_with [] None 0 []
        (filter (is_of_part 0 1) (orders_with l book.pages)))).sent) orders;
  };
  cells = sym cells;
  exchanged = All-nil (IsExchange book.cells);
  each = All-nil (IsRunOfBook slots []);
}

-- a book has a run with these records
abbrev pub HasRun : Contents → (slots : ℕ) → List Record → Type 0
HasRun book slots records = (all : List Exchange) × IsRun book slots all records

-- runs of parts that have all cells of a book, one after the other, make a run of it
pub in_a_row : (slots : ℕ) (parts : List PartRun) (book : Contents) → All IsForCells book.orders
    → All (IsWithin book.cells) book.orders → are_distinct book.cells ≡ true → book.cells ≡ cells_in parts
    → All (IsPartRun book slots) parts → HasRun book slots (records_in parts)
in_a_row slots [] book some within distinct cells runs = (
  [],
  no_run book slots cells (no_orders book.orders some
      (subst (λ (l : List Cell). All (IsWithin l) book.orders) cells within)),
)
in_a_row slots (p ∷ parts) book some within distinct cells runs =
    let keep : Keep = in_part p.cells in
    let apart : are_distinct (p.cells ++ cells_in parts) ≡ true = subst (λ (l : List Cell). are_distinct l ≡ true) cells
    distinct in
    let mine : All (λ (c : Cell). keep c ≡ true) p.cells = all_in_part p.cells p.cells (λ c there. there) in
    let others : All (λ (c : Cell). keep c ≡ false) (cells_in parts) = none_in_part p.cells (cells_in parts) apart in
    let left : filter (leave keep) book.cells ≡ cells_in parts =
    ap (filter (leave keep)) cells ∙ leaves_rest keep p.cells (cells_in parts) mine others in
    let own : filter keep book.cells ≡ p.cells =
    ap (filter keep) cells ∙ keeps_front keep p.cells (cells_in parts) mine others in
    let one : IsRun (restricted keep book) slots p.exchanges p.records = All-head (IsPartRun book slots) p parts runs in
    let rest : HasRun (restricted (leave keep) book) slots (records_in parts) =
    in_a_row slots parts (restricted (leave keep) book) (restricted_for (leave keep) book)
    (restricted_within (leave keep) book within) (distinct_filter (leave keep) book.cells distinct) left
    (parts_later book slots p.cells parts apart (All-tail (IsPartRun book slots) p parts runs)) in
    let whole = whole_run keep book slots p.exchanges rest.0 p.records (records_in parts) some one rest.1 in
    subst (HasRun book slots)
    (ap (λ (l : List Cell). merged keep l p.records (records_in parts)) cells
    ∙ merged_row keep p.cells (cells_in parts) p.records (records_in parts) mine others (one.cells ∙ own)
    (rest.1.cells ∙ left)) whole

-- so it is with a book that was read
pub parts_in_a_row : BooksAreNetworks → CellsAreValid → PartsInARow
parts_in_a_row networks valid from input book slots parts is cells runs =
    in_a_row slots parts book (orders_for_cells networks from input book is) (orders_within networks from input book is)
    (and_parts (nat_le (length book.cells) 64) (are_distinct book.cells) (valid from input book is)).1 cells runs

-- the tapes of parts, one after the other, are those of their records
pub tapes_in_a_row : TapesInARow
tapes_in_a_row [] = refl
tapes_in_a_row (p ∷ parts) =
    flat_map-append tape_of_record p.records (records_in parts)
    ∙ ap (λ (l : List ℕ). flat_map tape_of_record p.records ++ l) (tapes_in_a_row parts)
