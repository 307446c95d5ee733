-- The definitions, computed on worked rows.
use Rattle.std.proofs.Common.{◌≡◌, ℕ, Some, None, List, [], ◌∷◌, Ok, Err, codes, refl}
use lib.Utf8.{encode}
use Rattle.std.specs.Str.{chars, is_utf8}
use Rattle.csv.specs.Records.{field_at}
use Rattle.cbsp_wire.specs.declared.message.Cell.{Cell}
use Rattle.alert_book.specs.declared.fault.BookFaultKind.TheVariants as fault
use Rattle.alert_book.specs.declared.fault.RowFault.TheVariants as row_fault
use Rattle.alert_book.specs.Number.{number_within}
use Rattle.alert_book.specs.Cells.{cell_named, cell_with, cells_listed, cells_of_field}
use Rattle.alert_book.specs.declared.book.order.Action.TheVariants as action
use Rattle.alert_book.specs.Fields.{alert_with, category, sending_with}
use Rattle.alert_book.specs.Row.{order_with, verb_of}
use Rattle.alert_book.specs.Book.{fault_at, rows_of, rows_with}

-- one to five digits, leading zeros among them, and a range
number_zero : number_within 0 65535 (codes "0") ≡ Some 0
number_zero = refl

number_zeros : number_within 0 65535 (codes "00001") ≡ Some 1
number_zeros = refl

number_six_digits : number_within 0 65535 (codes "000001") ≡ None
number_six_digits = refl

number_most : number_within 0 65535 (codes "65535") ≡ Some 65535
number_most = refl

number_over : number_within 0 65535 (codes "65536") ≡ None
number_over = refl

number_signed : number_within 0 65535 (codes "+1") ≡ None
number_signed = refl

number_empty : number_within 0 65535 [] ≡ None
number_empty = refl

period_zero : number_within 1 1024 (codes "0") ≡ None
period_zero = refl

period_over : number_within 1 1024 (codes "1025") ≡ None
period_over = refl

-- 0 and 2 are categories, and 1 isn't
category_high : category (codes "0") ≡ Ok 0
category_high = refl

category_background : category (codes "1") ≡ Ok 1
category_background = refl

category_normal : category (codes "2") ≡ Ok 2
category_normal = refl

category_of_none : category (codes "3") ≡ Err row_fault.Number
category_of_none = refl

-- cells: a LAC, a dash, a CI, and one space between two
cell_plain : cell_named (codes "1-02") ≡ Some (cell_with 1 2)
cell_plain = refl

cell_of_three : cell_named (codes "1-2-3") ≡ None
cell_of_three = refl

cell_of_one : cell_named (codes "1") ≡ None
cell_of_one = refl

cells_two : cells_listed (codes "1-1 1-2") ≡ Some (cell_with 1 1 ∷ cell_with 1 2 ∷ [])
cells_two = refl

cells_with_two_spaces : cells_listed (codes "1-1  1-2") ≡ None
cells_with_two_spaces = refl

cells_none : cells_listed [] ≡ None
cells_none = refl

-- which of the faults of a list of cells comes first
abbrev the_cells : List Cell
the_cells = cell_with 1 1 ∷ cell_with 1 2 ∷ []

field_all : cells_of_field the_cells (codes "*") ≡ Ok the_cells
field_all = refl

field_none_declared : cells_of_field [] (codes "*") ≡ Err row_fault.UnknownCell
field_none_declared = refl

field_unknown : cells_of_field the_cells (codes "1-3") ≡ Err row_fault.UnknownCell
field_unknown = refl

field_twice : cells_of_field the_cells (codes "1-1 01-1") ≡ Err row_fault.TwiceNamed
field_twice = refl

field_form_first : cells_of_field the_cells (codes "1-3 1-1 1-1 x") ≡ Err row_fault.Number
field_form_first = refl

field_unknown_first : cells_of_field the_cells (codes "1-1 1-1 1-3") ≡ Err row_fault.UnknownCell
field_unknown_first = refl

field_in_its_order : cells_of_field the_cells (codes "1-2 1-1") ≡ Ok (cell_with 1 2 ∷ cell_with 1 1 ∷ [])
field_in_its_order = refl

-- books of one or two rows, and the fault of each; the same rows with no fault
abbrev cell_1 : List (List ℕ)
cell_1 = codes "cell" ∷ codes "1" ∷ codes "1" ∷ []

abbrev write_with : (category period cells : List ℕ) → List (List ℕ)
write_with category period cells =
    codes "write" ∷ codes "0" ∷ codes "a" ∷ codes "4370" ∷ codes "0" ∷ codes "1" ∷ codes "en" ∷ category ∷ period
    ∷ codes "0" ∷ cells ∷ codes "One" ∷ []

abbrev stop_a : List (List ℕ)
stop_a = codes "stop" ∷ codes "0" ∷ codes "a" ∷ codes "*" ∷ []

row_without_ci : rows_of ((codes "cell" ∷ codes "1" ∷ []) ∷ []) ≡ Err (fault_at 1 fault.Columns)
unfolding verb_of field_at is_utf8 chars encode
row_without_ci = refl

row_of_no_verb : rows_of ((codes "sell" ∷ codes "1" ∷ codes "1" ∷ []) ∷ []) ≡ Err (fault_at 1 fault.Verb)
unfolding verb_of field_at is_utf8 chars encode
row_of_no_verb = refl

row_of_no_number : rows_of ((codes "cell" ∷ codes "x" ∷ codes "1" ∷ []) ∷ []) ≡ Err (fault_at 1 fault.Number)
unfolding verb_of field_at is_utf8 chars encode
row_of_no_number = refl

cell_twice : rows_of (cell_1 ∷ cell_1 ∷ []) ≡ Err (fault_at 2 fault.TwiceNamed)
unfolding verb_of field_at is_utf8 chars encode
cell_twice = refl

write_alone : rows_of (write_with (codes "2") (codes "2") (codes "*") ∷ []) ≡ Err (fault_at 1 fault.UnknownCell)
unfolding verb_of field_at is_utf8 chars encode
write_alone = refl

stop_alone : rows_of (stop_a ∷ []) ≡ Err (fault_at 1 fault.UnknownName)
unfolding verb_of field_at is_utf8 chars encode
stop_alone = refl

write_of_unknown_cell :
    rows_of (cell_1 ∷ write_with (codes "2") (codes "2") (codes "1-2") ∷ []) ≡ Err (fault_at 2 fault.UnknownCell)
unfolding verb_of field_at is_utf8 chars encode
write_of_unknown_cell = refl

write_of_cell_twice :
    rows_of (cell_1 ∷ write_with (codes "2") (codes "2") (codes "1-1 1-1") ∷ []) ≡ Err (fault_at 2 fault.TwiceNamed)
unfolding verb_of field_at is_utf8 chars encode
write_of_cell_twice = refl

write_of_period_0 :
    rows_of (cell_1 ∷ write_with (codes "2") (codes "0") (codes "*") ∷ []) ≡ Err (fault_at 2 fault.Number)
unfolding verb_of field_at is_utf8 chars encode
write_of_period_0 = refl

write_of_period_1025 :
    rows_of (cell_1 ∷ write_with (codes "2") (codes "1025") (codes "*") ∷ []) ≡ Err (fault_at 2 fault.Number)
unfolding verb_of field_at is_utf8 chars encode
write_of_period_1025 = refl

write_of_category_3 :
    rows_of (cell_1 ∷ write_with (codes "3") (codes "2") (codes "*") ∷ []) ≡ Err (fault_at 2 fault.Number)
unfolding verb_of field_at is_utf8 chars encode
write_of_category_3 = refl

-- a write and a stop
abbrev the_cell : Cell
the_cell = cell_with 1 1

written_and_stopped :
    rows_of (cell_1 ∷ write_with (codes "2") (codes "2") (codes "*") ∷ stop_a ∷ [])
    ≡ Ok (rows_with (the_cell ∷ [])
    (order_with 2 0 (codes "a") 0 (alert_with 4370 0 1)
    (action.Write (sending_with (codes "en") 2 2 0 (the_cell ∷ []) (codes "One")))
    ∷ order_with 3 0 (codes "a") 0 (alert_with 4370 0 1) (action.Stop (the_cell ∷ [])) ∷ []))
unfolding verb_of field_at is_utf8 chars encode
written_and_stopped = refl
