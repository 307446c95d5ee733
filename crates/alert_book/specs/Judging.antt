-- What each row of a book or a network book with faults comes to, beside the rows that have none, and in which column
-- its fault is. Own.
use Rattle.std.specs.Prelude.{◌≡◌, ◌≢◌, ⊤, ℕ, ◌+◌, ◌-◌, ◌==◌, ◌&&◌, ◌||◌, not, nat_le, nat_lt, Bool, false}
use Rattle.std.specs.Prelude.{if◌then◌else◌}
use Rattle.std.specs.Prelude.{Option, Some, None, List, [], ◌∷◌, ◌++◌, length, count_by, find}
use Rattle.std.specs.Prelude.{option_map, Result, Ok, Err}
use Rattle.std.specs.Option.{option_and_then}
use Rattle.std.specs.Result.{result_err, result_ok}
use Rattle.std.specs.Str.{chars, is_utf8}
use Rattle.cbs_page.specs.Text.{IsTextFault}
use Rattle.cbs_page.specs.declared.paging.Paged.{Paged}
use Rattle.cbs_page.specs.declared.paging.TextFault.{TextFault}
use Rattle.cbs_page.specs.declared.paging.TextFault.TheVariants as text
use Rattle.cbsp_wire.specs.declared.message.Cell.{Cell}
use Rattle.alert_book.specs.declared.book.order.Action.TheVariants as action
use Rattle.alert_book.specs.declared.book.order.Order.{Order}
use Rattle.alert_book.specs.declared.book.order.Sending.{Sending}
use Rattle.alert_book.specs.declared.book.row.Row.{Row}
use Rattle.alert_book.specs.declared.book.row.Row.TheVariants as rows
use Rattle.alert_book.specs.declared.book.row.Verb.{Verb}
use Rattle.alert_book.specs.declared.book.row.Verb.TheVariants as verbs
use Rattle.alert_book.specs.declared.fault.RowFault.{RowFault}
use Rattle.alert_book.specs.declared.fault.RowFault.TheVariants as fault
use Rattle.alert_book.specs.declared.judging.bounds.Bounds.{Bounds}
use Rattle.alert_book.specs.declared.judging.bounds.Bounds.TheVariants as bounds
use Rattle.alert_book.specs.declared.judging.Verdict.{Verdict}
use Rattle.alert_book.specs.declared.judging.Verdict.TheVariants as verdict
use Rattle.alert_book.specs.declared.judging.columns.Column.{Column}
use Rattle.alert_book.specs.declared.judging.columns.Column.TheVariants as columns
use Rattle.alert_book.specs.declared.judging.columns.Found.{Found}
use Rattle.alert_book.specs.Book.{ArePagesOf, RowMeaning, Rows, rows_with, sending_of, with_row}
use Rattle.alert_book.specs.Cells.{cell_with, cells_listed, cells_of_field, is_among}
use Rattle.alert_book.specs.Fields.{alert_with, are_texts, column, first_order, if_right, known_name, new_name, number}
use Rattle.alert_book.specs.Fields.{sending_with}
use Rattle.alert_book.specs.Network.{declares_cell, max_network_cells, max_orders}
use Rattle.alert_book.specs.Row.{cell_row_within, columns_of, is_update_of, max_cells, max_rows, max_updates, new_cell}
use Rattle.alert_book.specs.Row.{order_with, row_after_verb_by, verb_of, FieldCells}

-- the most rows of a network book that are judged: one more than it may have
abbrev pub max_judged : ℕ
max_judged = 69633

-- how many cells rows may declare
abbrev pub most_cells : Bounds → ℕ
most_cells bounds.Book = max_cells
most_cells bounds.Network = max_network_cells

-- whether the row of this number is one too many, whatever else it is
abbrev pub is_over : Bounds → (row : ℕ) → List Order → List (List ℕ) → Bool
is_over bounds.Book row orders fields = nat_lt max_rows row
is_over bounds.Network row orders fields =
    nat_lt max_judged row || (not (declares_cell fields) && nat_le max_orders (length orders))

-- the cells of an order that count. No later row is judged by them, and those of a network's orders are many: none do
abbrev pub kept_of : Bounds → List Cell → List Cell
kept_of bounds.Book cells = cells
kept_of bounds.Network cells = []

-- what a row's field of cells comes to
abbrev pub field_judged : Bounds → List Cell → FieldCells
field_judged bounds.Book declared field = cells_of_field declared field
field_judged bounds.Network declared field = if_right (cells_of_field declared field) (λ cells. Ok [])

-- what the row of this number comes to, where the rows before it declare these cells and give these orders: of a book
-- what it means, and of a network book what it means for each group, but for the cells of an order
abbrev pub row_judged : Bounds → RowMeaning
row_judged bound row declared orders fields =
    if is_over bound row orders fields then Err fault.TooManyRows
    else if not (are_texts fields) then Err fault.Columns
    else
    row_after_verb_by (verb_of (column fields 0)) (cell_row_within (most_cells bound) declared fields) row
    (field_judged bound declared) orders fields

-- the columns after a verb, in their order
abbrev pub columns_after : Verb → List Column
columns_after verbs.Cell = columns.Lac ∷ columns.Ci ∷ []
columns_after verbs.Write =
    columns.At ∷ columns.Name ∷ columns.Id ∷ columns.Scope ∷ columns.Code ∷ columns.Language ∷ columns.Category ∷
    columns.Period ∷ columns.Broadcasts ∷ columns.Cells ∷ columns.Text ∷ []
columns_after verbs.Update =
    columns.At ∷ columns.Name ∷ columns.Language ∷ columns.Category ∷ columns.Period ∷ columns.Broadcasts ∷
    columns.Cells ∷ columns.Text ∷ []
columns_after verbs.Stop = columns.At ∷ columns.Name ∷ columns.Cells ∷ []

-- the judge of NAME: a `write` needs a new one, the others one that was written
abbrev pub name_fault : Verb → List Order → List ℕ → Option RowFault
name_fault verbs.Cell orders name = None
name_fault verbs.Write orders name = result_err (new_name orders name)
name_fault verbs.Update orders name = result_err (known_name orders name)
name_fault verbs.Stop orders name = result_err (known_name orders name)

-- the judge of CI: with the LAC before it, it names a cell that isn't declared
abbrev pub ci_fault : List Cell → (lac ci : List ℕ) → Option RowFault
ci_fault declared lac ci =
    result_err
    (if_right (number 0 65535 lac) (λ l. if_right (number 0 65535 ci) (λ c. new_cell declared (cell_with l c))))

-- the judge of each column; `before` is the field before it. Languages and texts are judged last, by others
abbrev pub column_fault : Bounds → Verb → List Cell → List Order → Column → (before field : List ℕ) → Option RowFault
column_fault bound verb declared orders columns.Lac before field = result_err (number 0 65535 field)
column_fault bound verb declared orders columns.Ci before field = ci_fault declared before field
column_fault bound verb declared orders columns.At before field = result_err (number 0 65535 field)
column_fault bound verb declared orders columns.Name before field = name_fault verb orders field
column_fault bound verb declared orders columns.Id before field = result_err (number 0 65535 field)
column_fault bound verb declared orders columns.Scope before field = result_err (number 0 3 field)
column_fault bound verb declared orders columns.Code before field = result_err (number 0 1023 field)
column_fault bound verb declared orders columns.Language before field = None
column_fault bound verb declared orders columns.Category before field = result_err (number 0 2 field)
column_fault bound verb declared orders columns.Period before field = result_err (number 1 1024 field)
column_fault bound verb declared orders columns.Broadcasts before field = result_err (number 0 65535 field)
column_fault bound verb declared orders columns.Cells before field =
    result_err (field_judged bound declared field)
column_fault bound verb declared orders columns.Text before field = None

-- a fault, and its column, counted from 1
abbrev pub found_at : (column : ℕ) → RowFault → Found
found_at place kind = record { column = place; fault = kind }

-- the fault of a column, if its judge refuses it, or else what comes later
abbrev pub found_or : (column : ℕ) → Option RowFault → Option Found → Option Found
found_or place None later = later
found_or place (Some kind) later = Some (found_at place kind)

-- the first of a row's columns whose judge refuses it, where these are the columns from a place on, counted from 0; if
-- none does, what comes last
abbrev pub first_found : Bounds → Verb → List Cell → List Order → List (List ℕ) → (last : Option Found) → ℕ
    → List Column → Option Found
first_found bound verb declared orders fields last place [] = last
first_found bound verb declared orders fields last place (kind ∷ kinds) =
    found_or (place + 1) (column_fault bound verb declared orders kind (column fields (place - 1))
    (column fields place))
    (first_found bound verb declared orders fields last (place + 1) kinds)

-- an update too many of a name, which stands in column 3
abbrev pub update_found : Verb → List Order → (name : List ℕ) → Option Found
update_found verbs.Cell orders name = None
update_found verbs.Write orders name = None
update_found verbs.Update orders name =
    if nat_le max_updates (count_by (is_update_of name) orders) then Some (found_at 3 fault.TooManyUpdates) else None
update_found verbs.Stop orders name = None

-- whether a row of this verb is a cell too many
abbrev pub is_full : Bounds → Verb → List Cell → Bool
is_full bound verbs.Cell declared = nat_le (most_cells bound) (length declared)
is_full bound verbs.Write declared = false
is_full bound verbs.Update declared = false
is_full bound verbs.Stop declared = false

-- the fault of a row of a verb that has the right number of columns
abbrev pub found_of_verb : Bounds → Verb → List Cell → List Order → List (List ℕ) → Option Found
found_of_verb bound verb declared orders fields =
    if is_full bound verb declared then Some (found_at 1 fault.TooManyRows)
    else
    first_found bound verb declared orders fields (update_found verb orders (column fields 2)) 1 (columns_after verb)

abbrev pub found_after_verb : Bounds → Option Verb → List Cell → List Order → List (List ℕ) → Option Found
found_after_verb bound None declared orders fields = Some (found_at 1 fault.Verb)
found_after_verb bound (Some verb) declared orders fields =
    if length fields == columns_of verb then found_of_verb bound verb declared orders fields
    else Some (found_at 1 fault.Columns)

-- the first column that isn't UTF-8, counted from 1, where the first of these fields has this place; 1 if there is none
abbrev pub no_text_from : (place : ℕ) → List (List ℕ) → ℕ
no_text_from place [] = 1
no_text_from place (field ∷ fields) = if is_utf8 field then no_text_from (place + 1) fields else place

abbrev pub no_text_column : List (List ℕ) → ℕ
no_text_column fields = no_text_from 1 fields

-- the fault of a row of this number, if it has one, and its column: faults of a whole row stand in column 1
abbrev pub found_in : Bounds → (row : ℕ) → List Cell → List Order → List (List ℕ) → Option Found
found_in bound row declared orders fields =
    if is_over bound row orders fields then Some (found_at 1 fault.TooManyRows)
    else if not (are_texts fields) then Some (found_at (no_text_column fields) fault.Columns)
    else found_after_verb bound (verb_of (column fields 0)) declared orders fields

-- what counts of the rows so far: what bounds them, their number, and the cells and orders by which later rows are
-- judged
pub record Counted : Type 0 where
  pub bounds : Bounds
  pub rows : ℕ
  pub known : Rows

abbrev pub counted_with : Bounds → (rows : ℕ) → Rows → Counted
counted_with bound rows known = record { bounds = bound; rows = rows; known = known }

abbrev pub none_within : Bounds → Counted
none_within bound = counted_with bound 0 (rows_with [] [])

-- of a book
abbrev pub none_counted : Counted
none_counted = none_within bounds.Book

-- a field, where it is text
abbrev pub text_or_none : List ℕ → Option (List ℕ)
text_or_none field = if is_utf8 field then Some field else None

-- the verb of a row, if it has one
abbrev pub verb_in : List (List ℕ) → Option Verb
verb_in fields = option_and_then verb_of (text_or_none (column fields 0))

-- a name, if a row may write it
abbrev pub good_name : List Order → List ℕ → Option (List ℕ)
good_name orders name = result_ok (new_name orders name)

abbrev pub name_of_verb : Option Verb → List Order → List ℕ → Option (List ℕ)
name_of_verb None orders field = None
name_of_verb (Some verbs.Cell) orders field = None
name_of_verb (Some verbs.Write) orders field = option_and_then (good_name orders) (text_or_none field)
name_of_verb (Some verbs.Update) orders field = None
name_of_verb (Some verbs.Stop) orders field = None

-- the name that a row writes, whatever else is wrong with the row
abbrev pub name_written : List Order → List (List ℕ) → Option (List ℕ)
name_written orders fields = name_of_verb (verb_in fields) orders (column fields 2)

-- the order that stands for a wrong row that writes a name: all that counts of it is the name and the row
abbrev pub stand_in : (row : ℕ) → (name : List ℕ) → Order
stand_in row name = order_with row 0 name 0 (alert_with 0 0 0) (action.Write (sending_with [] 0 0 0 [] []))

abbrev pub with_name : (row : ℕ) → Rows → Option (List ℕ) → Rows
with_name row before None = before
with_name row before (Some name) = rows_with before.cells (before.orders ++ stand_in row name ∷ [])

-- what is known after a row that comes to this: what a right row means, and of a wrong one the name that it writes
abbrev pub known_after_row : (row : ℕ) → Rows → List (List ℕ) → Result Row RowFault → Rows
known_after_row row before fields (Ok meant) = with_row before meant
known_after_row row before fields (Err kind) = with_name row before (name_written before.orders fields)

-- what the next row comes to
abbrev pub next_meant : Counted → List (List ℕ) → Result Row RowFault
next_meant before fields =
    row_judged before.bounds (before.rows + 1) before.known.cells before.known.orders fields

abbrev pub next_found : Counted → List (List ℕ) → Option Found
next_found before fields = found_in before.bounds (before.rows + 1) before.known.cells before.known.orders fields

-- whether the next row is one too many: of a book after 4,096 rows, and of a network book after as many that may order
-- something, or after more rows than it may have. No row after it needs to be judged
abbrev pub is_past_by : Bounds → (rows : ℕ) → List Order → List (List ℕ) → Bool
is_past_by bounds.Book rows orders fields = nat_le max_rows rows
is_past_by bounds.Network rows orders fields =
    nat_le max_judged rows || (not (declares_cell fields) && nat_le max_orders (length orders))

abbrev pub is_past : Counted → List (List ℕ) → Bool
is_past before fields = is_past_by before.bounds before.rows before.known.orders fields

-- what counts after the next row; a row too many doesn't count, and the next one after it has its number
abbrev pub counted_after : Counted → List (List ℕ) → Counted
counted_after before fields =
    if is_past before fields then before
    else counted_with before.bounds (before.rows + 1)
    (known_after_row (before.rows + 1) before.known fields (next_meant before fields))

-- the text of an order, if it has one, can be sent
abbrev pub CanBeSent : Order → Type 0
CanBeSent order = (paged : Option Paged) × ArePagesOf (sending_of order.action) paged

-- why the text of an order can't be sent
pub record HasTextFault (order : Order) (why : TextFault) : Type 0 where
  pub sending : Sending
  pub sent : sending_of order.action ≡ Some sending
  pub wrong : IsTextFault sending.language (chars sending.text) why
  pub told : why ≢ text.Refused

-- what is told of a row that is right, but for its text
abbrev pub IsVerdictOfRow : Row → Verdict → Type 0
IsVerdictOfRow (rows.Declare cell) verdict.Right = ⊤
IsVerdictOfRow (rows.Declare cell) (verdict.Wrong found) = ⊥
IsVerdictOfRow (rows.Declare cell) (verdict.Unsendable why) = ⊥
IsVerdictOfRow (rows.Give order) verdict.Right = CanBeSent order
IsVerdictOfRow (rows.Give order) (verdict.Wrong found) = ⊥
IsVerdictOfRow (rows.Give order) (verdict.Unsendable why) = HasTextFault order why

-- the next row has no fault, or this one: its own by `row_judged`, in the first column whose judge refuses it, or if it
-- has none, its text's
pub record IsRightRow (before : Counted) (fields : List (List ℕ)) (told : Verdict) : Type 0 where
  pub meant : Row
  pub right : next_meant before fields ≡ Ok meant
  pub text : IsVerdictOfRow meant told

pub record IsWrongRow (before : Counted) (fields : List (List ℕ)) (found : Found) : Type 0 where
  pub wrong : next_meant before fields ≡ Err found.fault
  pub found_is : next_found before fields ≡ Some found

abbrev pub IsVerdict : Counted → List (List ℕ) → Verdict → Type 0
IsVerdict before fields verdict.Right = IsRightRow before fields verdict.Right
IsVerdict before fields (verdict.Wrong found) = IsWrongRow before fields found
IsVerdict before fields (verdict.Unsendable why) = IsRightRow before fields (verdict.Unsendable why)

-- the row that first gives an order of a name
abbrev pub row_with_name : List Order → (name : List ℕ) → Option ℕ
row_with_name orders name = option_map (λ (order : Order). order.row) (first_order orders name)

abbrev pub is_undeclared : List Cell → Cell → Bool
is_undeclared declared cell = not (is_among declared cell)

-- the first of the cells that a field lists that isn't declared
abbrev pub undeclared_in : List Cell → (field : List ℕ) → Option Cell
undeclared_in declared field = option_and_then (find (is_undeclared declared)) (cells_listed field)

-- the fault of a row, and that of its columns, is one: a row has one exactly if a column has, or the whole row
abbrev pub FoundIsFault : Type 0
FoundIsFault = (bound : Bounds) (row : ℕ) (declared : List Cell) (orders : List Order) (fields : List (List ℕ))
    → option_map (λ (found : Found). found.fault) (found_in bound row declared orders fields)
    ≡ result_err (row_judged bound row declared orders fields)
