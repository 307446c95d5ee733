-- Octets are one book, or have one fault, and never both.
use Rattle.std.proofs.Common.{◌≡◌, ◌≢◌, ◌⊎◌, ◌∙◌, ap, subst, sym, ℕ, List, [], ◌∷◌, ◌++◌, Option, Some, None}
use Rattle.std.proofs.Common.{Result, Err, inl, inr}
use Rattle.std.specs.List.{AllZip}
use Rattle.std.specs.Str.{chars}
use Rattle.cbs_page.proofs.OneText.{sent_text_has_no_fault, sent_text_is_one, text_fault_is_one}
use Rattle.cbs_page.specs.Text.{IsTextFault}
use Rattle.cbs_page.specs.declared.paging.Paged.{Paged}
use Rattle.cbs_page.specs.declared.paging.TextFault.{TextFault}
use Rattle.cbs_page.specs.declared.paging.TextFault.TheVariants as text
use Rattle.alert_book.specs.declared.fault.BookFault.{BookFault}
use Rattle.alert_book.specs.declared.fault.BookFaultKind.TheVariants as fault
use Rattle.alert_book.specs.declared.book.order.Order.{Order}
use Rattle.alert_book.specs.declared.book.order.Sending.{Sending}
use Rattle.alert_book.specs.Book.{fault_at, rows_by, rows_with, sending_of, ArePagesOf, AreRowsBy}
use Rattle.alert_book.specs.Book.{Contents, HasTextFaultBy, HasWrongText, HavePages, IsBook, IsRowFaultBy, RowMeaning}
use Rattle.alert_book.specs.Book.{Rows}
use Rattle.alert_book.specs.Laws.{BooksAreRight, FaultsAreOne, HaveSamePages}
use Rattle.alert_book.specs.Row.{row_of}
use Rattle.alert_book.proofs.OneAnswer.{fault_stays, one_meaning, reached_either, right_or_wrong}

-- the pages of an order are determined, and so are those of a book's orders
one_pages : (sending : Option Sending) (paged other : Option Paged) → ArePagesOf sending paged →
    ArePagesOf sending other → HaveSamePages paged other
one_pages None None None one two = tt
one_pages None None (Some other) one two = two
one_pages None (Some paged) other one two = absurd one
one_pages (Some sending) None other one two = absurd one
one_pages (Some sending) (Some paged) None one two = two
one_pages (Some sending) (Some paged) (Some other) one two =
    sent_text_is_one sending.language (chars sending.text) paged other one two

-- the orders of a book have one list of pages
pub all_pages_one : (orders : List Order) (pages others : List (Option Paged)) → HavePages orders pages →
    HavePages orders others → AllZip HaveSamePages pages others
all_pages_one [] [] [] one two = tt
all_pages_one [] [] (q ∷ qs) one two = two
all_pages_one [] (p ∷ ps) others one two = absurd one
all_pages_one (order ∷ orders) [] others one two = absurd one
all_pages_one (order ∷ orders) (p ∷ ps) [] one two = two
all_pages_one (order ∷ orders) (p ∷ ps) (q ∷ qs) one two =
    (one_pages (sending_of order.action) p q one.0 two.0, all_pages_one orders ps qs one.1 two.1)

-- octets are one book
pub books_are_one : (input : List ℕ) (book other : Contents) → IsBook input book → IsBook input other →
    (book.cells ≡ other.cells) × (book.orders ≡ other.orders) × AllZip HaveSamePages book.pages other.pages
books_are_one input book other one two =
    let rows = one_meaning row_of input (rows_with book.cells book.orders) (rows_with other.cells other.orders) one.rows
    two.rows in
    let orders : book.orders ≡ other.orders = ap (λ (r : Rows). r.orders) rows in (
      ap (λ (r : Rows). r.cells) rows,
      orders,
      all_pages_one other.orders book.pages other.pages
          (subst (λ (o : List Order). HavePages o book.pages) orders one.paged) two.paged,
    )

-- an order whose text can't be sent, and why
record IsWrongOrder (order : Order) (f : BookFault) : Type 0 where
  pub sending : Sending
  pub sent : sending_of order.action ≡ Some sending
  pub why : TextFault
  pub wrong : IsTextFault sending.language (chars sending.text) why
  pub told : why ≢ text.Refused
  pub named : f ≡ fault_at order.row (fault.Text why)

wrong_order : (orders : List Order) (f : BookFault) (h : HasWrongText orders f) → IsWrongOrder h.order f
wrong_order orders f h = record {
  sending = h.sending;
  sent = h.sent;
  why = h.why;
  wrong = h.wrong;
  told = h.told;
  named = h.named;
}

-- has no pages
no_pages : (order : Order) (f : BookFault) (paged : Option Paged) → IsWrongOrder order f →
    ArePagesOf (sending_of order.action) paged → ⊥
no_pages order f paged wrong pages =
    by_pages paged (subst (λ (s : Option Sending). ArePagesOf s paged) wrong.sent pages)
  where
    by_pages : (p : Option Paged) → ArePagesOf (Some wrong.sending) p → ⊥
    by_pages None none = none
    by_pages (Some p) sent =
        sent_text_has_no_fault wrong.sending.language (chars wrong.sending.text) p wrong.why sent wrong.wrong wrong.told

-- and has one fault
one_sending : (o : Option Sending) (a b : Sending) → o ≡ Some a → o ≡ Some b → a ≡ b
one_sending o a b one other = cc

one_order : (order : Order) (f g : BookFault) → IsWrongOrder order f → IsWrongOrder order g → f ≡ g
one_order order f g one two =
    let same = one_sending (sending_of order.action) one.sending two.sending one.sent two.sent in
    let wrong = subst (λ (s : Sending). IsTextFault s.language (chars s.text) one.why) same one.wrong in
    let why = text_fault_is_one two.sending.language (chars two.sending.text) one.why two.why wrong two.wrong one.told
    two.told in
    one.named ∙ ap (λ (w : TextFault). fault_at order.row (fault.Text w)) why ∙ sym two.named

-- the first order whose text can't be sent is one
first_order : (x y : Order) (xs ys : List Order) → x ∷ xs ≡ y ∷ ys → x ≡ y
first_order x y xs ys same = cc

later_orders : (x y : Order) (xs ys : List Order) → x ∷ xs ≡ y ∷ ys → xs ≡ ys
later_orders x y xs ys same = cc

one_wrong : (before others : List Order) (x y : Order) (after later : List Order) (ps qs : List (Option Paged))
    (f g : BookFault) → before ++ x ∷ after ≡ others ++ y ∷ later → HavePages before ps → HavePages others qs →
    IsWrongOrder x f → IsWrongOrder y g → f ≡ g
one_wrong [] [] x y after later ps qs f g same had having one two =
    one_order y f g (subst (λ (o : Order). IsWrongOrder o f) (first_order x y after later same) one) two
one_wrong [] (o ∷ os) x y after later ps [] f g same had having one two = absurd having
one_wrong [] (o ∷ os) x y after later ps (q ∷ qs) f g same had having one two =
    let here = first_order x o after (os ++ y ∷ later) same in
    absurd (no_pages o f q (subst (λ (z : Order). IsWrongOrder z f) here one) having.0)
one_wrong (o ∷ os) [] x y after later [] qs f g same had having one two = absurd had
one_wrong (o ∷ os) [] x y after later (p ∷ ps) qs f g same had having one two =
    let here = first_order o y (os ++ x ∷ after) later same in
    absurd (no_pages o g p (subst (λ (z : Order). IsWrongOrder z g) (sym here) two) had.0)
one_wrong (o ∷ os) (z ∷ zs) x y after later [] qs f g same had having one two = absurd had
one_wrong (o ∷ os) (z ∷ zs) x y after later (p ∷ ps) [] f g same had having one two = absurd having
one_wrong (o ∷ os) (z ∷ zs) x y after later (p ∷ ps) (q ∷ qs) f g same had having one two =
    one_wrong os zs x y after later ps qs f g (later_orders o z (os ++ x ∷ after) (zs ++ y ∷ later) same) had.1 having.1
    one two

one_wrong_text : (orders : List Order) (f g : BookFault) → HasWrongText orders f → HasWrongText orders g → f ≡ g
one_wrong_text orders f g one two =
    one_wrong one.before two.before one.order two.order one.after two.after one.pages two.pages f g
    (sym one.split ∙ two.split) one.paged two.paged (wrong_order orders f one) (wrong_order orders g two)

-- orders with pages have no wrong text
paged_wrong : (before : List Order) (x : Order) (after : List Order) (pages : List (Option Paged)) (f : BookFault) →
    HavePages (before ++ x ∷ after) pages → IsWrongOrder x f → ⊥
paged_wrong [] x after [] f have wrong = have
paged_wrong [] x after (p ∷ ps) f have wrong = no_pages x f p wrong have.0
paged_wrong (o ∷ os) x after [] f have wrong = have
paged_wrong (o ∷ os) x after (p ∷ ps) f have wrong = paged_wrong os x after ps f have.1 wrong

-- octets that mean rows whose orders have pages have no fault, neither of a row nor of a text
pub right_rows : (meaning : RowMeaning) (input : List ℕ) (rows : Rows) (pages : List (Option Paged)) (f : BookFault) →
    AreRowsBy meaning input rows → HavePages rows.orders pages →
    IsRowFaultBy meaning input f ⊎ HasTextFaultBy meaning input f → ⊥
right_rows meaning input rows pages f are paged (inl row) = right_or_wrong meaning input rows f are row
right_rows meaning input rows pages f are paged (inr named) =
    let same = one_meaning meaning input rows named.rows are named.meant in
    let orders : rows.orders ≡ named.wrong.before ++ named.wrong.order ∷ named.wrong.after =
    ap (λ (r : Rows). r.orders) same ∙ named.wrong.split in
    paged_wrong named.wrong.before named.wrong.order named.wrong.after pages f
    (subst (λ (o : List Order). HavePages o pages) orders paged) (wrong_order named.rows.orders f named.wrong)

-- octets that are a book have no fault
pub books_are_right : BooksAreRight
books_are_right input book f is wrong =
    right_rows row_of input (rows_with book.cells book.orders) book.pages f is.rows is.paged wrong.1

-- a row's fault is one
one_err : (r : Result Rows BookFault) (f g : BookFault) → r ≡ Err f → r ≡ Err g → f ≡ g
one_err r f g one other = cc

one_row_fault : (meaning : RowMeaning) (input : List ℕ) (f g : BookFault) → IsRowFaultBy meaning input f →
    IsRowFaultBy meaning input g → f ≡ g
one_row_fault meaning input f g one two =
    elim (reached_either _ _ _ one.records two.records _ _ _ _ one.read two.read) [
      | inl m ↦
          let more = fault_stays meaning 1 (rows_with [] []) one.records m.0 f one.wrong in
          one_err (rows_by meaning two.records) f g (ap (rows_by meaning) m.1 ∙ more) two.wrong
      | inr m ↦
          let more = fault_stays meaning 1 (rows_with [] []) two.records m.0 g two.wrong in
          one_err (rows_by meaning one.records) f g one.wrong (ap (rows_by meaning) m.1 ∙ more)
    ]

one_text_fault : (meaning : RowMeaning) (input : List ℕ) (f g : BookFault) → HasTextFaultBy meaning input f →
    HasTextFaultBy meaning input g → f ≡ g
one_text_fault meaning input f g one two =
    let rows = one_meaning meaning input one.rows two.rows one.meant two.meant in
    one_wrong_text two.rows.orders f g (subst (λ (r : Rows). HasWrongText r.orders f) rows one.wrong) two.wrong

-- octets have one fault at most, of a row or else of a text, whatever rows mean
pub one_fault : (meaning : RowMeaning) (input : List ℕ) (f g : BookFault) →
    IsRowFaultBy meaning input f ⊎ HasTextFaultBy meaning input f →
    IsRowFaultBy meaning input g ⊎ HasTextFaultBy meaning input g → f ≡ g
one_fault meaning input f g (inl row) (inl other) = one_row_fault meaning input f g row other
one_fault meaning input f g (inl row) (inr other) = absurd (right_or_wrong meaning input other.rows f other.meant row)
one_fault meaning input f g (inr named) (inl other) = absurd
    (right_or_wrong meaning input named.rows g named.meant other)
one_fault meaning input f g (inr named) (inr other) = one_text_fault meaning input f g named other

-- octets have one fault at most
pub faults_are_one : FaultsAreOne
faults_are_one input f g one two = one_fault row_of input f g one.1 two.1
