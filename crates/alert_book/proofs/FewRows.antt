-- A book's rows are few, and the cells that they declare are few and distinct.
use Rattle.std.proofs.Common.{◌≡◌, ℕ, ◌+◌, ◌<◌, ◌≤◌, ◌∙◌, Bool, true, false, cond, not, nat_le, nat_lt, eqb}
use Rattle.std.proofs.Common.{Option, Some, None, List, [], ◌∷◌, ◌++◌, length, length-append, Result, Ok, Err, refl}
use Rattle.std.proofs.Common.{arith, inl, inr, subst}
use Rattle.std.specs.List.{list_any}
use Rattle.std.proofs.lemmas.Bool.{and_from, and_parts, cases_Bool, le-leb, leb-false}
use Rattle.std.proofs.lemmas.Bool.{not-true, not_from_false, or_from, or_parts}
use Rattle.std.proofs.lemmas.List.Folds.{list_any-append}
use Rattle.cbsp_wire.specs.declared.message.Cell.{Cell}
use Rattle.cbsp_wire.specs.Range.{are_distinct, cells_are_valid, is_cell}
use Rattle.alert_book.specs.declared.fault.BookFault.{BookFault}
use Rattle.alert_book.specs.declared.fault.RowFault.{RowFault}
use Rattle.alert_book.specs.declared.fault.RowFault.TheVariants as fault
use Rattle.alert_book.specs.declared.book.order.Order.{Order}
use Rattle.alert_book.specs.declared.book.row.Row.{Row}
use Rattle.alert_book.specs.declared.book.row.Row.TheVariants as rows
use Rattle.alert_book.specs.declared.book.row.Verb.{Verb}
use Rattle.alert_book.specs.declared.book.row.Verb.TheVariants as verbs
use Rattle.alert_book.specs.Book.{after_row, rows_read_by, rows_with, with_row, Contents, IsBook, RowMeaning, Rows}
use Rattle.alert_book.specs.Cells.{cell_with, cells_of_field, is_among}
use Rattle.alert_book.specs.Fields.{alert_at, are_texts, column, if_right, known_name, new_name, number, sending_by}
use Rattle.alert_book.specs.Laws.{RowsAreFew}
use Rattle.alert_book.specs.Row.{cell_row_within, new_cell, row_of, FieldCells}
use Rattle.alert_book.specs.Row.{row_after_verb_by, stop_row_by, update_row_by, verb_of, write_row_by}
use Rattle.alert_book.proofs.BookLaws.{row_fits}

-- how many cells and orders rows declare and give
abbrev size : Rows → ℕ
size rows = length rows.cells + length rows.orders

size_more : (before : Rows) (meant : Row) → size (with_row before meant) ≡ size before + 1
size_more before (rows.Declare cell) = simp length-append (omega arith)
size_more before (rows.Give order) = simp length-append (omega arith)

-- what is kept by each row that is right is kept by all
same_rows : (r : Result Rows BookFault) (a b : Rows) → r ≡ Ok a → r ≡ Ok b → a ≡ b
same_rows r a b one other = cc

-- what each row keeps, all rows keep
pub rows_keep : (meaning : RowMeaning) (P : ℕ → Rows → Type 0) →
    ((row : ℕ) (before : Rows) (fields : List (List ℕ)) (meant : Row) → P row before →
    meaning row before.cells before.orders fields ≡ Ok meant → P (row + 1) (with_row before meant)) →
    (row : ℕ) (before result : Rows) (records : List (List (List ℕ))) → P row before →
    rows_read_by meaning row before records ≡ Ok result → (end : ℕ) × P end result
rows_keep meaning P step row before result [] here so =
    (row, subst (P row) (same_rows (Ok before) before result refl so) here)
rows_keep meaning P step row before result (fields ∷ more) here so =
    elim (meaning row before.cells before.orders fields)
    as (λ r. meaning row before.cells before.orders fields ≡ r
    → after_row row before r (λ next. rows_read_by meaning (row + 1) next more) ≡ Ok result
    → (end : ℕ) × P end result) [
      | Ok meant ↦ λ is e. rows_keep meaning P step (row + 1) (with_row before meant) result more
          (step row before fields meant here is) e
      | Err kind ↦ λ is e. absurd (cc e)
    ] refl so

-- rows are fewer than the number of the next, and at most as many as a book may have
pub IsFew : ℕ → Rows → Type 0
IsFew row rows = (size rows < row) × (size rows ≤ 4096)

-- one row more leaves as few as there can be
pub few_more : (row : ℕ) (before : Rows) (fields : List (List ℕ)) (meant : Row) → IsFew row before →
    row_of row before.cells before.orders fields ≡ Ok meant → IsFew (row + 1) (with_row before meant)
unfolding IsFew
few_more row before fields meant few is =
    let more = size_more before meant in
    let fits = row_fits row before.cells before.orders fields meant is in
    (omega (arith, few.0, more), omega (arith, few.0, more, fits))

-- before the first row there are none
pub no_rows_few : IsFew 1 (rows_with [] [])
unfolding IsFew
no_rows_few = (omega arith, omega arith)

-- there are fewer orders than the number of the next row
pub few_orders_of : (row : ℕ) (before : Rows) → IsFew row before → length before.orders < row
unfolding IsFew
few_orders_of row before few = omega (arith, few.0)

-- so those of a book are
pub rows_are_few : RowsAreFew
unfolding IsFew
rows_are_few input book is =
    (rows_keep row_of IsFew few_more 1 (rows_with [] []) (rows_with book.cells book.orders) is.rows.records
    (omega arith, omega arith) is.rows.meant).1.1

-- what declares no cell
abbrev NeverDeclares : Result Row RowFault → Type 0
NeverDeclares r = (cell : Cell) → r ≡ Ok (rows.Declare cell) → ⊥

right_never : {A : Type 0} (r : Result A RowFault) (next : A → Result Row RowFault) →
    ((value : A) → NeverDeclares (next value)) → NeverDeclares (if_right r next)
right_never (Ok value) next never cell is = never value cell is
right_never (Err kind) next never cell is = cc

gives_never : (order : Order) → NeverDeclares (Ok (rows.Give order))
gives_never order cell is = cc

-- a fault declares no cell
pub fault_never : (kind : RowFault) → NeverDeclares (Err kind)
fault_never kind cell is = cc

write_never : (row : ℕ) (cells_of : FieldCells) (orders : List Order) (fields : List (List ℕ)) →
    NeverDeclares (write_row_by row cells_of orders fields)
write_never row cells_of orders fields =
    right_never (number 0 65535 (column fields 1)) _ (λ at.
    right_never (new_name orders (column fields 2)) _ (λ name.
    right_never (alert_at fields 3) _ (λ alert.
    right_never (sending_by cells_of fields 6) _ (λ sending. gives_never _))))

stop_never : (row : ℕ) (cells_of : FieldCells) (orders : List Order) (fields : List (List ℕ)) →
    NeverDeclares (stop_row_by row cells_of orders fields)
stop_never row cells_of orders fields =
    right_never (number 0 65535 (column fields 1)) _ (λ at.
    right_never (known_name orders (column fields 2)) _ (λ first.
    right_never (cells_of (column fields 3)) _ (λ cells. gives_never _)))

-- what declares no cell either way declares none
pub either_never : (test : Bool) (a b : Result Row RowFault) → NeverDeclares a → NeverDeclares b →
    NeverDeclares (cond test a b)
either_never true a b first second = first
either_never false a b first second = second

update_never : (row : ℕ) (cells_of : FieldCells) (orders : List Order) (fields : List (List ℕ)) →
    NeverDeclares (update_row_by row cells_of orders fields)
update_never row cells_of orders fields =
    right_never (number 0 65535 (column fields 1)) _ (λ at.
    right_never (known_name orders (column fields 2)) _ (λ first.
    right_never (sending_by cells_of fields 3) _ (λ sending.
    either_never _ _ _ (fault_never fault.TooManyUpdates) (gives_never _))))

-- a cell that no earlier row declares, where those declare fewer than may be
pub IsNew : (most : ℕ) → List Cell → Cell → Type 0
IsNew most declared cell = (nat_le most (length declared) ≡ false) × (is_among declared cell ≡ false)

-- a new cell has room and isn't declared yet
pub new_parts : (most : ℕ) (declared : List Cell) (cell : Cell) → IsNew most declared cell →
    (nat_le most (length declared) ≡ false) × (is_among declared cell ≡ false)
unfolding IsNew
new_parts most declared cell new = new

-- what declares such a cell alone
abbrev pub DeclaresNew : (most : ℕ) → List Cell → Result Row RowFault → Type 0
DeclaresNew most declared r = (cell : Cell) → r ≡ Ok (rows.Declare cell) → IsNew most declared cell

-- what declares no cell declares none but new ones
pub never_new : (most : ℕ) (declared : List Cell) (r : Result Row RowFault) → NeverDeclares r
    → DeclaresNew most declared r
never_new most declared r never cell is = absurd (never cell is)

same_cell : (r : Result Row RowFault) (a b : Cell) → r ≡ Ok (rows.Declare a) → r ≡ Ok (rows.Declare b) → a ≡ b
same_cell r a b one other = cc

cell_is_new : (most : ℕ) (declared : List Cell) (few : nat_le most (length declared) ≡ false) (cell : Cell) →
    DeclaresNew most declared (new_cell declared cell)
unfolding IsNew
cell_is_new most declared few cell made is = elim (cases_Bool (is_among declared cell)) [
  | inl among ↦ absurd (cc (rw among at is))
  | inr new ↦
      let same = same_cell (Ok (rows.Declare cell)) cell made refl (rw new at is) in
      (few, subst (λ (c : Cell). is_among declared c ≡ false) same new)
]

right_new : {A : Type 0} (most : ℕ) (declared : List Cell) (r : Result A RowFault) (next : A → Result Row RowFault) →
    ((value : A) → DeclaresNew most declared (next value)) → DeclaresNew most declared (if_right r next)
right_new most declared (Ok value) next new cell is = new value cell is
right_new most declared (Err kind) next new cell is = absurd (cc is)

-- what declares a new cell alone either way declares none but new ones
pub either_new : (most : ℕ) (declared : List Cell) (test : Bool) (a b : Result Row RowFault) →
    DeclaresNew most declared a → DeclaresNew most declared b → DeclaresNew most declared (cond test a b)
either_new most declared true a b first second = first
either_new most declared false a b first second = second

cell_row_new : (most : ℕ) (declared : List Cell) (fields : List (List ℕ)) →
    DeclaresNew most declared (cell_row_within most declared fields)
cell_row_new most declared fields = elim (cases_Bool (nat_le most (length declared))) [
  | inl many ↦ rw many (never_new most declared _ (fault_never fault.TooManyRows))
  | inr few ↦ rw few
      (right_new most declared (number 0 65535 (column fields 1)) _ (λ lac.
      right_new most declared (number 0 65535 (column fields 2)) _ (λ ci.
      cell_is_new most declared few (cell_with lac ci))))
]

-- a row declares none but a new cell
pub verb_new : (most : ℕ) (verb : Option Verb) (row : ℕ) (declared : List Cell) (cells_of : FieldCells)
    (orders : List Order) (fields : List (List ℕ)) → DeclaresNew most declared
    (row_after_verb_by verb (cell_row_within most declared fields) row cells_of orders fields)
verb_new most None row declared cells_of orders fields = never_new most declared _ (fault_never fault.Verb)
verb_new most (Some verbs.Cell) row declared cells_of orders fields =
    either_new most declared (eqb (length fields) 3) _ _ (cell_row_new most declared fields)
    (never_new most declared _ (fault_never fault.Columns))
verb_new most (Some verbs.Write) row declared cells_of orders fields =
    either_new most declared (eqb (length fields) 12) _ _
    (never_new most declared _ (write_never row cells_of orders fields))
    (never_new most declared _ (fault_never fault.Columns))
verb_new most (Some verbs.Update) row declared cells_of orders fields =
    either_new most declared (eqb (length fields) 9) _ _
    (never_new most declared _ (update_never row cells_of orders fields))
    (never_new most declared _ (fault_never fault.Columns))
verb_new most (Some verbs.Stop) row declared cells_of orders fields =
    either_new most declared (eqb (length fields) 4) _ _
    (never_new most declared _ (stop_never row cells_of orders fields))
    (never_new most declared _ (fault_never fault.Columns))

row_new : (row : ℕ) (declared : List Cell) (orders : List Order) (fields : List (List ℕ)) →
    DeclaresNew 64 declared (row_of row declared orders fields)
row_new row declared orders fields =
    either_new 64 declared (nat_lt 4096 row) _ _ (never_new 64 declared _ (fault_never fault.TooManyRows))
    (either_new 64 declared (not (are_texts fields)) _ _ (never_new 64 declared _ (fault_never fault.Columns))
    (verb_new 64 (verb_of (column fields 0)) row declared (cells_of_field declared) orders fields))

-- a new cell leaves the cells distinct and few
pub distinct_push : (cells : List Cell) (cell : Cell) → are_distinct cells ≡ true → is_among cells cell ≡ false →
    are_distinct (cells ++ cell ∷ []) ≡ true
distinct_push [] cell distinct new = refl
distinct_push (first ∷ cells) cell distinct new =
    let parts = and_parts (not (list_any (is_cell first) cells)) (are_distinct cells) distinct in
    let others = or_parts (is_cell first cell) (is_among cells cell) new in
    let alone : list_any (is_cell first) (cells ++ cell ∷ []) ≡ false =
    list_any-append (is_cell first) cells (cell ∷ [])
    ∙ or_from (list_any (is_cell first) cells) (list_any (is_cell first) (cell ∷ []))
    (not-true (list_any (is_cell first) cells) parts.0) (or_from (is_cell first cell) false others.0 refl) in
    and_from (not (list_any (is_cell first) (cells ++ cell ∷ []))) (are_distinct (cells ++ cell ∷ []))
    (not_from_false (list_any (is_cell first) (cells ++ cell ∷ [])) alone)
    (distinct_push cells cell parts.1 others.1)

valid_push : (cells : List Cell) (cell : Cell) → cells_are_valid cells ≡ true → IsNew 64 cells cell →
    cells_are_valid (cells ++ cell ∷ []) ≡ true
unfolding IsNew
valid_push cells cell valid new =
    let parts = and_parts (nat_le (length cells) 64) (are_distinct cells) valid in
    let few = leb-false 64 (length cells) new.0 in
    and_from (nat_le (length (cells ++ cell ∷ [])) 64) (are_distinct (cells ++ cell ∷ []))
    (le-leb (length (cells ++ cell ∷ [])) 64 (simp length-append (omega (arith, few))))
    (distinct_push cells cell parts.1 new.1)

-- the cells of rows are distinct and few
AreValid : ℕ → Rows → Type 0
AreValid row rows = cells_are_valid rows.cells ≡ true

-- a row that is right leaves them so
pub valid_with : (before : Rows) (meant : Row) (row : ℕ) (fields : List (List ℕ)) →
    cells_are_valid before.cells ≡ true → row_of row before.cells before.orders fields ≡ Ok meant →
    cells_are_valid (with_row before meant).cells ≡ true
valid_with before (rows.Declare cell) row fields valid is =
    valid_push before.cells cell valid (row_new row before.cells before.orders fields cell is)
valid_with before (rows.Give order) row fields valid is = valid

valid_more : (row : ℕ) (before : Rows) (fields : List (List ℕ)) (meant : Row) → AreValid row before →
    row_of row before.cells before.orders fields ≡ Ok meant → AreValid (row + 1) (with_row before meant)
unfolding AreValid
valid_more row before fields meant valid is = valid_with before meant row fields valid is

-- so those of a book are
pub cells_are_few : (input : List ℕ) (book : Contents) → IsBook input book → cells_are_valid book.cells ≡ true
unfolding AreValid
cells_are_few input book is =
    (rows_keep row_of AreValid valid_more 1 (rows_with [] []) (rows_with book.cells book.orders) is.rows.records refl
    is.rows.meant).1
