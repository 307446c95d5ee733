-- What a row means after earlier rows, or its fault: of several, the first in the order that stands here. Own.
use Rattle.std.specs.Prelude.{ℕ, ◌+◌, ◌==◌, ◌&&◌, not, nat_le, nat_lt, Bool, true, false, if◌then◌else◌, Option, Some}
use Rattle.std.specs.Prelude.{None, List, length, count_by, codes, Result, Ok, Err}
use Rattle.std.specs.Str.{bytes_eq}
use Rattle.cbsp_wire.specs.declared.message.Cell.{Cell}
use Rattle.alert_book.specs.declared.fault.RowFault.{RowFault}
use Rattle.alert_book.specs.declared.fault.RowFault.TheVariants as fault
use Rattle.alert_book.specs.declared.book.order.Action.{Action}
use Rattle.alert_book.specs.declared.book.order.Action.TheVariants as action
use Rattle.alert_book.specs.declared.book.order.Alert.{Alert}
use Rattle.alert_book.specs.declared.book.order.Order.{Order}
use Rattle.alert_book.specs.declared.book.order.Sending.{Sending}
use Rattle.alert_book.specs.declared.book.row.Row.{Row}
use Rattle.alert_book.specs.declared.book.row.Row.TheVariants as rows
use Rattle.alert_book.specs.declared.book.row.Verb.{Verb}
use Rattle.alert_book.specs.declared.book.row.Verb.TheVariants as verbs
use Rattle.alert_book.specs.Cells.{cell_with, cells_of_field, is_among}
use Rattle.alert_book.specs.Fields.{alert_at, are_texts, column, if_right, is_named, known_name, new_name, number}
use Rattle.alert_book.specs.Fields.{sending_by}

-- the most rows of a book, and the most of them that declare cells
abbrev pub max_rows : ℕ
max_rows = 4096

abbrev pub max_cells : ℕ
max_cells = 64

-- the most updates of a name
abbrev pub max_updates : ℕ
max_updates = 15

unfoldable pub verb_of : List ℕ → Option Verb
verb_of word =
    if bytes_eq word (codes "cell") then Some verbs.Cell
    else if bytes_eq word (codes "write") then Some verbs.Write
    else if bytes_eq word (codes "update") then Some verbs.Update
    else if bytes_eq word (codes "stop") then Some verbs.Stop
    else None

-- how many columns a row of a verb has, the verb's own among them
abbrev pub columns_of : Verb → ℕ
columns_of verbs.Cell = 3
columns_of verbs.Write = 12
columns_of verbs.Update = 9
columns_of verbs.Stop = 4

abbrev pub writes : Action → Bool
writes (action.Write sending) = true
writes (action.Update update sending) = false
writes (action.Stop cells) = false

abbrev pub is_write : Order → Bool
is_write order = writes order.action

abbrev pub updates : Action → Bool
updates (action.Write sending) = false
updates (action.Update update sending) = true
updates (action.Stop cells) = false

-- an update of the alert of this name
abbrev pub is_update_of : List ℕ → Order → Bool
is_update_of name order = updates order.action && is_named name order

abbrev pub order_with : (row at : ℕ) (name : List ℕ) (number : ℕ) → Alert → Action → Order
order_with row at name number alert action =
    record { row = row; at = at; name = name; number = number; alert = alert; action = action }

-- a cell that no earlier row declares
abbrev pub new_cell : List Cell → Cell → Result Row RowFault
new_cell declared cell = if is_among declared cell then Err fault.TwiceNamed else Ok (rows.Declare cell)

-- `cell`, LAC, CI, where rows may declare this many cells at most
abbrev pub cell_row_within : (most : ℕ) → List Cell → List (List ℕ) → Result Row RowFault
cell_row_within most declared fields =
    if nat_le most (length declared) then Err fault.TooManyRows
    else
    if_right (number 0 65535 (column fields 1)) (λ lac.
    if_right (number 0 65535 (column fields 2)) (λ ci.
    new_cell declared (cell_with lac ci)))

abbrev pub cell_row : List Cell → List (List ℕ) → Result Row RowFault
cell_row declared fields = cell_row_within max_cells declared fields

-- what a row's field of cells comes to, by the cells that earlier rows declare
abbrev pub FieldCells : Type 0
FieldCells = List ℕ → Result (List Cell) RowFault

-- `write`, AT, NAME, ID, SCOPE, CODE, LANG, CATEGORY, PERIOD, BROADCASTS, CELLS, TEXT
abbrev pub write_row_by : (row : ℕ) → FieldCells → List Order → List (List ℕ) → Result Row RowFault
write_row_by row cells_of orders fields =
    if_right (number 0 65535 (column fields 1)) (λ at.
    if_right (new_name orders (column fields 2)) (λ name.
    if_right (alert_at fields 3) (λ alert.
    if_right (sending_by cells_of fields 6) (λ sending.
    Ok (rows.Give (order_with row at name (count_by is_write orders) alert (action.Write sending)))))))

abbrev pub write_row : (row : ℕ) → List Cell → List Order → List (List ℕ) → Result Row RowFault
write_row row declared orders fields = write_row_by row (cells_of_field declared) orders fields

-- an update of a name with this first order, where it isn't one too many
abbrev pub update_with : (row at : ℕ) → List ℕ → Order → (earlier : ℕ) → Sending → Result Row RowFault
update_with row at name first earlier sending =
    if nat_le max_updates earlier then Err fault.TooManyUpdates
    else Ok (rows.Give (order_with row at name first.number first.alert (action.Update (earlier + 1) sending)))

-- `update`, AT, NAME, LANG, CATEGORY, PERIOD, BROADCASTS, CELLS, TEXT
abbrev pub update_row_by : (row : ℕ) → FieldCells → List Order → List (List ℕ) → Result Row RowFault
update_row_by row cells_of orders fields =
    if_right (number 0 65535 (column fields 1)) (λ at.
    if_right (known_name orders (column fields 2)) (λ first.
    if_right (sending_by cells_of fields 3) (λ sending.
    update_with row at (column fields 2) first (count_by (is_update_of (column fields 2)) orders) sending)))

abbrev pub update_row : (row : ℕ) → List Cell → List Order → List (List ℕ) → Result Row RowFault
update_row row declared orders fields = update_row_by row (cells_of_field declared) orders fields

-- `stop`, AT, NAME, CELLS
abbrev pub stop_row_by : (row : ℕ) → FieldCells → List Order → List (List ℕ) → Result Row RowFault
stop_row_by row cells_of orders fields =
    if_right (number 0 65535 (column fields 1)) (λ at.
    if_right (known_name orders (column fields 2)) (λ first.
    if_right (cells_of (column fields 3)) (λ cells.
    Ok (rows.Give (order_with row at (column fields 2) first.number first.alert (action.Stop cells))))))

abbrev pub stop_row : (row : ℕ) → List Cell → List Order → List (List ℕ) → Result Row RowFault
stop_row row declared orders fields = stop_row_by row (cells_of_field declared) orders fields

-- a row of a verb, where this is what it means if it declares a cell
abbrev pub row_of_verb_by : Verb → (declares : Result Row RowFault) → (row : ℕ) → FieldCells → List Order
    → List (List ℕ) → Result Row RowFault
row_of_verb_by verbs.Cell declares row cells_of orders fields = declares
row_of_verb_by verbs.Write declares row cells_of orders fields = write_row_by row cells_of orders fields
row_of_verb_by verbs.Update declares row cells_of orders fields = update_row_by row cells_of orders fields
row_of_verb_by verbs.Stop declares row cells_of orders fields = stop_row_by row cells_of orders fields

-- what a row means, by its verb. The fault of a row is promised to be the first in a fixed order, so this goes through
-- its columns in that order, as the code does
abbrev pub row_after_verb_by : Option Verb → (declares : Result Row RowFault) → (row : ℕ) → FieldCells → List Order
    → List (List ℕ) → Result Row RowFault
row_after_verb_by None declares row cells_of orders fields = Err fault.Verb
row_after_verb_by (Some verb) declares row cells_of orders fields =
    if length fields == columns_of verb then row_of_verb_by verb declares row cells_of orders fields
    else Err fault.Columns

abbrev pub row_after_verb : Option Verb → (row : ℕ) → List Cell → List Order → List (List ℕ) → Result Row RowFault
row_after_verb verb row declared orders fields =
    row_after_verb_by verb (cell_row declared fields) row (cells_of_field declared) orders fields

-- what the row of this number means, where the rows before it declare these cells and give these orders
abbrev pub row_of : (row : ℕ) → List Cell → List Order → List (List ℕ) → Result Row RowFault
row_of row declared orders fields =
    if nat_lt max_rows row then Err fault.TooManyRows
    else if not (are_texts fields) then Err fault.Columns
    else row_after_verb (verb_of (column fields 0)) row declared orders fields
