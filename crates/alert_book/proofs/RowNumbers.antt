-- The order that a row gives has the number of the row.
use Rattle.std.proofs.Common.{◌≡◌, ℕ, Bool, true, false, cond, Option, Some, None, List, length, Result}
use Rattle.std.proofs.Common.{Ok, Err, refl, count_by}
use Rattle.std.specs.Prelude.{⊤, nat_le, not, ◌==◌}
use Rattle.cbsp_wire.specs.declared.message.Cell.{Cell}
use Rattle.alert_book.specs.declared.book.order.Order.{Order}
use Rattle.alert_book.specs.declared.book.row.Row.{Row}
use Rattle.alert_book.specs.declared.book.row.Row.TheVariants as rows
use Rattle.alert_book.specs.declared.book.row.Verb.{Verb}
use Rattle.alert_book.specs.declared.book.row.Verb.TheVariants as verbs
use Rattle.alert_book.specs.declared.judging.bounds.Bounds.{Bounds}
use Rattle.alert_book.specs.declared.fault.RowFault.{RowFault}
use Rattle.alert_book.specs.declared.fault.RowFault.TheVariants as fault
use Rattle.alert_book.specs.Cells.{cell_with, is_among}
use Rattle.alert_book.specs.Fields.{alert_at, are_texts, column, if_right, known_name, new_name, number, sending_by}
use Rattle.alert_book.specs.Judging.{field_judged, is_over, most_cells, row_judged}
use Rattle.alert_book.specs.Row.{cell_row_within, columns_of, is_update_of, max_updates, row_after_verb_by}
use Rattle.alert_book.specs.Row.{row_of_verb_by, verb_of, FieldCells}

-- an order has this number of a row
abbrev HasRow : ℕ → Result Row RowFault → Type 0
HasRow row (Ok (rows.Declare cell)) = ⊤
HasRow row (Ok (rows.Give order)) = order.row ≡ row
HasRow row (Err kind) = ⊤

after : {A : Type 0} (row : ℕ) (field : Result A RowFault) (next : A → Result Row RowFault)
    → ((value : A) → HasRow row (next value)) → HasRow row (if_right field next)
after row (Ok value) next each = each value
after row (Err kind) next each = tt

unless : (row : ℕ) (test : Bool) (kind : RowFault) (meant : Result Row RowFault) → HasRow row meant
    → HasRow row (cond test (Err kind) meant)
unless row true kind meant has = tt
unless row false kind meant has = has

where_so : (row : ℕ) (test : Bool) (kind : RowFault) (meant : Result Row RowFault) → HasRow row meant
    → HasRow row (cond test meant (Err kind))
where_so row true kind meant has = has
where_so row false kind meant has = tt

of_verb : (verb : Verb) (row most : ℕ) (cells_of : FieldCells) (declared : List Cell) (orders : List Order)
    (fields : List (List ℕ))
    → HasRow row (row_of_verb_by verb (cell_row_within most declared fields) row cells_of orders fields)
of_verb verbs.Cell row most cells_of declared orders fields =
    unless row (nat_le most (length declared)) fault.TooManyRows _
    (after row (number 0 65535 (column fields 1)) _ (λ lac. after row (number 0 65535 (column fields 2)) _ (λ ci.
    unless row (is_among declared (cell_with lac ci)) fault.TwiceNamed _ tt)))
of_verb verbs.Write row most cells_of declared orders fields =
    after row (number 0 65535 (column fields 1)) _ (λ at. after row (new_name orders (column fields 2)) _ (λ name.
    after row (alert_at fields 3) _ (λ alert. after row (sending_by cells_of fields 6) _ (λ sending.
    refl))))
of_verb verbs.Update row most cells_of declared orders fields =
    after row (number 0 65535 (column fields 1)) _ (λ at. after row (known_name orders (column fields 2)) _ (λ first.
    after row (sending_by cells_of fields 3) _ (λ sending.
    unless row (nat_le max_updates (count_by (is_update_of (column fields 2)) orders)) fault.TooManyUpdates _ refl)))
of_verb verbs.Stop row most cells_of declared orders fields =
    after row (number 0 65535 (column fields 1)) _ (λ at. after row (known_name orders (column fields 2)) _ (λ first.
    after row (cells_of (column fields 3)) _ (λ cells. refl)))

after_verb : (verb : Option Verb) (row most : ℕ) (cells_of : FieldCells) (declared : List Cell) (orders : List Order)
    (fields : List (List ℕ))
    → HasRow row (row_after_verb_by verb (cell_row_within most declared fields) row cells_of orders fields)
after_verb None row most cells_of declared orders fields = tt
after_verb (Some verb) row most cells_of declared orders fields =
    where_so row (length fields == columns_of verb) fault.Columns _
    (of_verb verb row most cells_of declared orders fields)

has_row : (bound : Bounds) (row : ℕ) (declared : List Cell) (orders : List Order) (fields : List (List ℕ))
    → HasRow row (row_judged bound row declared orders fields)
has_row bound row declared orders fields =
    unless row (is_over bound row orders fields) fault.TooManyRows _
    (unless row (not (are_texts fields)) fault.Columns _
    (after_verb (verb_of (column fields 0)) row (most_cells bound) (field_judged bound declared) declared orders
    fields))

-- an order has the number of its row
pub order_has_row : (bound : Bounds) (row : ℕ) (declared : List Cell) (orders : List Order) (fields : List (List ℕ))
    (order : Order) → row_judged bound row declared orders fields ≡ Ok (rows.Give order) → order.row ≡ row
order_has_row bound row declared orders fields order is = rw is at (has_row bound row declared orders fields)
