-- The rows of a book, read one after the other.
use Rattle.std.proofs.Common.{◌≡◌, ◌≢◌, ◌⊎◌, ◌≤◌, ◌+◌, ◌∙◌, ap, sym, ℕ, List, [], ◌∷◌, ◌++◌, Ok, Err, Result, nat_lt}
use Rattle.std.proofs.Common.{length, length-append, refl, inl, inr, append_assoc, append-nil, arith, rules, subst}
use Rattle.std.specs.Prelude.{IfErr}
use Rattle.std.proofs.lemmas.Bool.{cases_Bool}
use Rattle.csv.specs.Reading.{Reached, default_config, strip_bom}
use Rattle.csv.specs.declared.parser.State.{State}
use Rattle.csv.specs.declared.parser.State.TheVariants as st
use Rattle.cbsp_wire.specs.declared.message.Cell.{Cell}
use Rattle.alert_book.specs.declared.fault.BookFault.{BookFault}
use Rattle.alert_book.specs.declared.fault.BookFaultKind.TheVariants.{ReadFailed}
use Rattle.alert_book.specs.declared.fault.RowFault.{RowFault}
use Rattle.alert_book.specs.declared.fault.RowFault.TheVariants as fault
use Rattle.alert_book.specs.declared.book.order.Order.{Order}
use Rattle.alert_book.specs.declared.book.row.Row.{Row}
use Rattle.alert_book.specs.declared.book.row.Row.TheVariants as rows
use Rattle.alert_book.specs.Row.{row_of}
use Rattle.alert_book.specs.Book.{Rows, RowMeaning, IsRowFaultBy, after_row, fault_at, kind_of, refused, rows_by}
use Rattle.alert_book.specs.Book.{rows_read_by, rows_with, unread, with_row}

-- a row that is right is none too many
pub row_fits : (row : ℕ) (declared : List Cell) (orders : List Order) (fields : List (List ℕ)) (meant : Row) →
    row_of row declared orders fields ≡ Ok meant → row ≤ 4096
row_fits row declared orders fields meant h = elim (cases_Bool (nat_lt 4096 row)) [
  | inl over ↦ let no_row = rw over at h in cc
  | inr fits ↦ search rules
]

-- each row gives one order at most
pub orders_grow : (before : Rows) (meant : Row) (most : ℕ) → length before.orders ≤ most →
    length (with_row before meant).orders ≤ most + 1
orders_grow before (rows.Declare cell) most h = omega arith
orders_grow before (rows.Give order) most h = simp length-append (omega arith)

-- these rows, seen so far, leave these before the next
abbrev pub Leave : RowMeaning → List (List (List ℕ)) → ℕ → Rows → Type 0
Leave meaning seen row before =
    (more : List (List (List ℕ))) → rows_by meaning (seen ++ more) ≡ rows_read_by meaning (row + 1) before more

-- one right row more leaves what it means
pub leave_more : (meaning : RowMeaning) (seen : List (List (List ℕ))) (fields : List (List ℕ)) (row : ℕ)
    (before next : Rows)
    (meant : Row) → Leave meaning seen row before → meaning (row + 1) before.cells before.orders fields ≡ Ok meant →
    next ≡ with_row before meant →
    Leave meaning (seen ++ fields ∷ []) (row + 1) next
leave_more meaning seen fields row before next meant so right is more =
    ap (rows_by meaning) (append_assoc seen (fields ∷ []) more) ∙ so (fields ∷ more) ∙ rw (right, is) refl

-- what all rows leave is what they mean
pub leave_all : (meaning : RowMeaning) (seen : List (List (List ℕ))) (row : ℕ) (before : Rows) →
    Leave meaning seen row before → rows_by meaning seen ≡ Ok before
leave_all meaning seen row before so = ap (rows_by meaning) (sym (append-nil seen)) ∙ so []

-- the fault of a row that is wrong after those
pub wrong_row : (meaning : RowMeaning) (input : List ℕ) (seen : List (List (List ℕ))) (fields : List (List ℕ))
    (row : ℕ) (before : Rows)
    (wrong : RowFault) (f : BookFault) (state : State) (rest : List ℕ) →
    Reached default_config st.StartRecord (strip_bom input) (seen ++ fields ∷ []) state rest →
    Leave meaning seen row before → (wrong ≢ fault.Refused → meaning (row + 1) before.cells before.orders fields ≡ Err
    wrong) →
    ((f ≡ refused) ⊎ ((wrong ≢ fault.Refused) × (f ≡ fault_at (row + 1) (kind_of wrong)))) →
    (f ≡ refused) ⊎ IsRowFaultBy meaning input f
wrong_row meaning input seen fields row before bad f state rest read so wrong (inl none) = inl none
wrong_row meaning input seen fields row before bad f state rest read so wrong (inr told) = inr record {
  records = seen ++ fields ∷ [];
  state = state;
  rest = rest;
  read = read;
  wrong = so (fields ∷ []) ∙ rw (wrong told.0, told.1) refl;
}

-- no row's fault is that the reader failed
kind_is_read : (bad : RowFault) → kind_of bad ≢ ReadFailed
kind_is_read fault.Columns h = cc
kind_is_read fault.Verb h = cc
kind_is_read fault.Number h = cc
kind_is_read fault.UnknownCell h = cc
kind_is_read fault.TwiceNamed h = cc
kind_is_read fault.UnknownName h = cc
kind_is_read fault.TooManyUpdates h = cc
kind_is_read fault.TooManyRows h = cc
kind_is_read fault.Refused h = cc

after_row-read : (row : ℕ) (before : Rows) (meant : Result Row RowFault) (next : Rows → Result Rows BookFault)
    (f : BookFault) → ((rows : Rows) → next rows ≡ Err f → f ≢ unread) → after_row row before meant next ≡ Err f →
    f ≢ unread
after_row-read row before (Ok meant) next f later h failed = later (with_row before meant) h failed
after_row-read row before (Err bad) next f later h failed =
    let told : fault_at row (kind_of bad) ≡ f = cc in
    kind_is_read bad (ap (λ (b : BookFault). b.kind) (told ∙ failed))

rows_read-read : (meaning : RowMeaning) (row : ℕ) (before : Rows) (list : List (List (List ℕ))) (f : BookFault) →
    rows_read_by meaning row before list ≡ Err f → f ≢ unread
rows_read-read meaning row before [] f h failed = cc
rows_read-read meaning row before (fields ∷ more) f h failed =
    after_row-read row before (meaning row before.cells before.orders fields)
    (λ next. rows_read_by meaning (row + 1) next more) f (λ next. rows_read-read meaning (row + 1) next more f) h failed

-- a fault of rows is no fault of the reader
pub row_fault_is_read : (meaning : RowMeaning) (input : List ℕ) (f : BookFault) →
    (f ≡ refused) ⊎ IsRowFaultBy meaning input f → f ≢ unread
row_fault_is_read meaning input f (inl none) failed =
    let e = ap (λ (b : BookFault). b.kind) (sym none ∙ failed) in cc
row_fault_is_read meaning input f (inr wrong) failed = rows_read-read meaning 1 (rows_with [] []) wrong.records f
    wrong.wrong failed

-- a fault that isn't the reader's isn't
pub unread_where : {A : Type 0} (result : Result A BookFault) (f : BookFault) → result ≡ Err f → f ≢ unread →
    IfErr result (λ fault. fault ≢ unread)
unread_where (Ok x) f is told = tt
unread_where (Err fault) f is told = let same : f ≡ fault = cc in subst (λ (g : BookFault). g ≢ unread) same told
