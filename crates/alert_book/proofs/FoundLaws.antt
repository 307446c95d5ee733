-- A row's fault is that of the first column whose judge refuses it, or one of the whole row.
use Rattle.std.proofs.Common.{◌≡◌, ℕ, Bool, true, false, cond, Option, Some, None, List, length, Result, Ok, Err, refl}
use Rattle.std.proofs.Common.{count_by, ap, ◌+◌}
use Rattle.std.specs.Prelude.{option_map, nat_le, not, ◌==◌, IsErr}
use Rattle.std.specs.Result.{result_err}
use Rattle.cbsp_wire.specs.declared.message.Cell.{Cell}
use Rattle.alert_book.specs.declared.book.order.Order.{Order}
use Rattle.alert_book.specs.declared.book.row.Row.{Row}
use Rattle.alert_book.specs.declared.book.row.Verb.{Verb}
use Rattle.alert_book.specs.declared.book.row.Verb.TheVariants as verbs
use Rattle.alert_book.specs.declared.fault.RowFault.{RowFault}
use Rattle.alert_book.specs.declared.fault.RowFault.TheVariants as fault
use Rattle.alert_book.specs.declared.judging.columns.Found.{Found}
use Rattle.alert_book.specs.Cells.{cell_with}
use Rattle.alert_book.specs.Fields.{alert_with, are_texts, column, if_right, known_name, new_name, number}
use Rattle.alert_book.specs.Fields.{sending_with}
use Rattle.alert_book.specs.declared.judging.bounds.Bounds.{Bounds}
use Rattle.alert_book.specs.Judging.{ci_fault, field_judged, found_after_verb, found_at, found_of_verb, found_or}
use Rattle.alert_book.specs.Judging.{no_text_column, counted_after, counted_with, known_after_row, name_written}
use Rattle.alert_book.specs.Judging.{is_over, is_past, most_cells, next_meant}
use Rattle.alert_book.specs.Judging.{with_name, Counted, FoundIsFault}
use Rattle.alert_book.specs.Row.{cell_row_within, columns_of, is_update_of, max_updates, new_cell}
use Rattle.alert_book.specs.Row.{row_after_verb_by, row_of_verb_by, verb_of}

-- what was found is the fault of a result
abbrev pub Tells : {B : Type 0} → Option Found → Result B RowFault → Type 0
Tells found meant = option_map (λ (f : Found). f.fault) found ≡ result_err meant

-- a field that is judged first
one : {A B : Type 0} (place : ℕ) (a : Result A RowFault) (next : A → Result B RowFault) (later : Option Found)
    → ((x : A) → Tells later (next x)) → Tells (found_or place (result_err a) later) (if_right a next)
one place (Ok x) next later each = each x
one place (Err kind) next later each = refl

-- three fields that make one value
three : {A B : Type 0} (p q r : ℕ) (a b c : Result ℕ RowFault) (make : ℕ → ℕ → ℕ → A) (next : A → Result B RowFault)
    (later : Option Found) → ((x : A) → Tells later (next x))
    → Tells (found_or p (result_err a) (found_or q (result_err b) (found_or r (result_err c) later)))
    (if_right (if_right a (λ x. if_right b (λ y. if_right c (λ z. Ok (make x y z))))) next)
three p q r (Err kind) b c make next later each = refl
three p q r (Ok x) (Err kind) c make next later each = refl
three p q r (Ok x) (Ok y) (Err kind) make next later each = refl
three p q r (Ok x) (Ok y) (Ok z) make next later each = each (make x y z)

-- four
four : {A B : Type 0} (p q r s : ℕ) (a b c : Result ℕ RowFault) (d : Result (List Cell) RowFault)
    (make : ℕ → ℕ → ℕ → List Cell → A) (next : A → Result B RowFault)
    (later : Option Found) → ((x : A) → Tells later (next x))
    → Tells (found_or p (result_err a) (found_or q (result_err b) (found_or r (result_err c)
    (found_or s (result_err d) later))))
    (if_right (if_right a (λ w. if_right b (λ x. if_right c (λ y. if_right d (λ z. Ok (make w x y z)))))) next)
four p q r s (Err kind) b c d make next later each = refl
four p q r s (Ok w) (Err kind) c d make next later each = refl
four p q r s (Ok w) (Ok x) (Err kind) d make next later each = refl
four p q r s (Ok w) (Ok x) (Ok y) (Err kind) make next later each = refl
four p q r s (Ok w) (Ok x) (Ok y) (Ok z) make next later each = each (make w x y z)

-- LAC and CI
ci_tells : (meant : Result Row RowFault) → Tells (found_or 3 (result_err meant) None) meant
ci_tells (Ok row) = refl
ci_tells (Err kind) = refl

two : (a b : Result ℕ RowFault) (next : ℕ → ℕ → Result Row RowFault)
    → Tells (found_or 2 (result_err a) (found_or 3
    (result_err (if_right a (λ x. if_right b (λ y. next x y)))) None)) (if_right a (λ x. if_right b (λ y. next x y)))
two (Err kind) b next = refl
two (Ok x) b next = ci_tells (if_right b (λ y. next x y))

cell_tells : (full : Bool) (declared : List Cell) (fields : List (List ℕ))
    → Tells (cond full (Some (found_at 1 fault.TooManyRows))
    (found_or 2 (result_err (number 0 65535 (column fields 1)))
    (found_or 3 (ci_fault declared (column fields 1) (column fields 2)) None)))
    (cond full (Err fault.TooManyRows) (if_right (number 0 65535 (column fields 1)) (λ lac.
    if_right (number 0 65535 (column fields 2)) (λ ci. new_cell declared (cell_with lac ci)))))
cell_tells true declared fields = refl
cell_tells false declared fields =
    two (number 0 65535 (column fields 1)) (number 0 65535 (column fields 2))
    (λ lac ci. new_cell declared (cell_with lac ci))

-- an update too many
last_tells : (full : Bool) (row : Row)
    → Tells (cond full (Some (found_at 3 fault.TooManyUpdates)) None)
    (cond full (Err fault.TooManyUpdates) (Ok row))
last_tells true row = refl
last_tells false row = refl

-- the rows of each verb
tells : (bound : Bounds) (verb : Verb) (row : ℕ) (declared : List Cell) (orders : List Order) (fields : List (List ℕ))
    → Tells (found_of_verb bound verb declared orders fields)
    (row_of_verb_by verb (cell_row_within (most_cells bound) declared fields) row (field_judged bound declared) orders
    fields)
tells bound verbs.Cell row declared orders fields = cell_tells (nat_le (most_cells bound) (length declared)) declared
    fields
tells bound verbs.Write row declared orders fields =
    one 2 (number 0 65535 (column fields 1)) _ _ (λ at.
    one 3 (new_name orders (column fields 2)) _ _ (λ name.
    three 4 5 6 (number 0 65535 (column fields 3)) (number 0 3 (column fields 4)) (number 0 1023 (column fields 5))
    alert_with _ _ (λ alert.
    four 8 9 10 11 (number 0 2 (column fields 7)) (number 1 1024 (column fields 8)) (number 0 65535 (column fields 9))
    (field_judged bound declared (column fields 10))
    (λ category period broadcasts cells. sending_with (column fields 6) category period broadcasts cells
    (column fields 11)) _ None (λ sending. refl))))
tells bound verbs.Update row declared orders fields =
    one 2 (number 0 65535 (column fields 1)) _ _ (λ at.
    one 3 (known_name orders (column fields 2)) _ _ (λ first.
    four 5 6 7 8 (number 0 2 (column fields 4)) (number 1 1024 (column fields 5)) (number 0 65535 (column fields 6))
    (field_judged bound declared (column fields 7))
    (λ category period broadcasts cells. sending_with (column fields 3) category period broadcasts cells
    (column fields 8)) _ _ (λ sending.
    last_tells (nat_le max_updates (count_by (is_update_of (column fields 2)) orders)) _)))
tells bound verbs.Stop row declared orders fields =
    one 2 (number 0 65535 (column fields 1)) _ _ (λ at.
    one 3 (known_name orders (column fields 2)) _ _ (λ first.
    one 4 (field_judged bound declared (column fields 3)) _ _ (λ cells. refl)))

by_columns : (right : Bool) (found : Option Found) (meant : Result Row RowFault) → Tells found meant
    → Tells (cond right found (Some (found_at 1 fault.Columns))) (cond right meant (Err fault.Columns))
by_columns true found meant is = is
by_columns false found meant is = refl

after_verb : (bound : Bounds) (verb : Option Verb) (row : ℕ) (declared : List Cell) (orders : List Order)
    (fields : List (List ℕ))
    → Tells (found_after_verb bound verb declared orders fields)
    (row_after_verb_by verb (cell_row_within (most_cells bound) declared fields) row (field_judged bound declared)
    orders
    fields)
after_verb bound None row declared orders fields = refl
after_verb bound (Some verb) row declared orders fields =
    by_columns (length fields == columns_of verb) (found_of_verb bound verb declared orders fields)
    (row_of_verb_by verb (cell_row_within (most_cells bound) declared fields) row (field_judged bound declared) orders
    fields)
    (tells bound verb row declared orders fields)

by_texts : (texts : Bool) (place : ℕ) (found : Option Found) (meant : Result Row RowFault) → Tells found meant
    → Tells (cond (not texts) (Some (found_at place fault.Columns)) found) (cond (not texts) (Err fault.Columns) meant)
by_texts true place found meant is = is
by_texts false place found meant is = refl

by_rows : (full : Bool) (found : Option Found) (meant : Result Row RowFault) → Tells found meant
    → Tells (cond full (Some (found_at 1 fault.TooManyRows)) found) (cond full (Err fault.TooManyRows) meant)
by_rows true found meant is = refl
by_rows false found meant is = is

-- what is found in a row is the fault that it has
pub found_is_fault : FoundIsFault
found_is_fault bound row declared orders fields =
    by_rows (is_over bound row orders fields) _ _ (by_texts (are_texts fields) (no_text_column fields) _ _
    (after_verb bound (verb_of (column fields 0)) row declared orders fields))

-- a row whose fault isn't found is right
pub none_found : (found : Option Found) (meant : Result Row RowFault) → Tells found meant → IsErr meant
    → found ≡ None → ⊥
none_found None (Ok row) same wrong none = cc
none_found None (Err kind) same wrong none = cc
none_found (Some it) meant same wrong none = cc

-- and what is found is its fault
pub some_found : (found : Option Found) (meant : Result Row RowFault) (it : Found) → Tells found meant
    → found ≡ Some it → meant ≡ Err it.fault
some_found None meant it same is = absurd cc
some_found (Some other) (Ok row) it same is = absurd cc
some_found (Some other) (Err kind) it same is =
    let one : other ≡ it = cc in
    let told : other.fault ≡ kind = cc in
    rw (← one, told) refl

-- what counts after a row that is wrong
pub wrong_counts : (before : Counted) (fields : List (List ℕ)) → is_past before fields ≡ false
    → IsErr (next_meant before fields)
    → counted_with before.bounds (before.rows + 1) (with_name (before.rows + 1) before.known
    (name_written before.known.orders fields))
    ≡ counted_after before fields
wrong_counts before fields room wrong =
    rw room (ap (counted_with before.bounds (before.rows + 1)) (by_meant (next_meant before fields) wrong))
  where
    by_meant : (meant : Result Row RowFault) → IsErr meant
        → with_name (before.rows + 1) before.known (name_written before.known.orders fields)
        ≡ known_after_row (before.rows + 1) before.known fields meant
    by_meant (Ok row) wrong = absurd cc
    by_meant (Err kind) wrong = refl
