-- What each row of a plan gives: a row of a book, an area, or nothing. Own.
use Rattle.std.specs.Prelude.{◌==◌, ◌&&◌, ◌||◌, not, ℕ, ◌+◌, Bool, true, false, if◌then◌else◌, Option, Some, None}
use Rattle.std.specs.Prelude.{List, []}
use Rattle.std.specs.Prelude.{◌∷◌, ◌++◌, ◌-◌, codes, drop, is_some, unwrap_or, length, map, nat_le, slice_get, take}
use Rattle.std.specs.Char.{is_ascii_digit, to_ascii_lowercase}
use Rattle.std.specs.Fmt.{decimal}
use Rattle.std.specs.List.{filter_map, flat_map, list_all, list_any}
use Rattle.std.specs.Str.{bytes_eq}
use Rattle.cbsp_wire.specs.Range.{is_cell}
use Rattle.cbsp_wire.specs.declared.message.Cell.{Cell}
use Rattle.alert_book.specs.Cells.{cell_from, cell_named, is_among}
use Rattle.alert_book.specs.Fields.{column}
use Rattle.alert_book.specs.Judging.{columns_after}
use Rattle.alert_book.specs.Number.{number_within}
use Rattle.alert_book.specs.Row.{columns_of, verb_of}
use Rattle.alert_book.specs.declared.book.row.Verb.{Verb}
use Rattle.alert_book.specs.declared.book.row.Verb.TheVariants as verbs
use Rattle.alert_book.specs.declared.judging.columns.Column.{Column}
use Rattle.alert_book.specs.declared.judging.columns.Column.TheVariants as columns
use Rattle.plan.specs.PlanCells.{area_of, cells_text, most_cells, parts_of}
use Rattle.plan.specs.PlanText.{trimmed}
use Rattle.plan.specs.PlanTime.{time_text}
use Rattle.plan.specs.declared.cells.area.Area.{Area}
use Rattle.plan.specs.declared.cells.new.NewCell.{NewCell}
use Rattle.plan.specs.declared.rows.Planned.{Planned}

-- Which rows count

abbrev pub is_empty_field : List ℕ → Bool
is_empty_field field = length (trimmed field) == 0

-- a field that begins a comment
abbrev pub is_comment : List ℕ → Bool
is_comment [] = false
is_comment (octet ∷ field) = octet == 35

-- empty rows and comments
abbrev pub is_left_out : (fields : List (List ℕ)) → Bool
is_left_out fields = list_all is_empty_field fields || is_comment (trimmed (column fields 0))

-- the first field of a row, in small letters
abbrev pub word_of : (fields : List (List ℕ)) → List ℕ
word_of fields = map to_ascii_lowercase (trimmed (column fields 0))

abbrev pub is_area_word : (word : List ℕ) → Bool
is_area_word word = bytes_eq word (codes "area")

abbrev pub is_area : (fields : List (List ℕ)) → Bool
is_area fields = is_area_word (word_of fields)

-- the areas that the rows of a plan name
abbrev pub area_in : (fields : List (List ℕ)) → List Area
area_in fields = if is_area fields then area_of fields ∷ [] else []

abbrev pub areas_of : (records : List (List (List ℕ))) → List Area
areas_of records = flat_map area_in records

-- What stands in the book for a row

abbrev pub scope_text : (word : List ℕ) → List ℕ
scope_text word =
    if bytes_eq word (codes "immediate") then codes "0"
    else if bytes_eq word (codes "plmn") then codes "1"
    else if bytes_eq word (codes "area") then codes "2"
    else if bytes_eq word (codes "cell") then codes "3"
    else word

abbrev pub category_text : (word : List ℕ) → List ℕ
category_text word =
    if bytes_eq word (codes "high") then codes "0"
    else if bytes_eq word (codes "background") then codes "1"
    else if bytes_eq word (codes "normal") then codes "2"
    else word

-- what stands in the book for a field without space round it
abbrev pub field_text : (areas : List Area) → Option Column → List ℕ → List ℕ
field_text areas None field = field
field_text areas (Some columns.Lac) field = field
field_text areas (Some columns.Ci) field = field
field_text areas (Some columns.At) field = time_text 0 field
field_text areas (Some columns.Name) field = field
field_text areas (Some columns.Id) field = field
field_text areas (Some columns.Scope) field = scope_text (map to_ascii_lowercase field)
field_text areas (Some columns.Code) field = field
field_text areas (Some columns.Language) field = map to_ascii_lowercase field
field_text areas (Some columns.Category) field = category_text (map to_ascii_lowercase field)
field_text areas (Some columns.Period) field = time_text 1 field
field_text areas (Some columns.Broadcasts) field = field
field_text areas (Some columns.Cells) field = cells_text areas field
field_text areas (Some columns.Text) field = field

-- TEXT alone keeps the space round it
abbrev pub is_text : Option Column → Bool
is_text None = false
is_text (Some columns.Lac) = false
is_text (Some columns.Ci) = false
is_text (Some columns.At) = false
is_text (Some columns.Name) = false
is_text (Some columns.Id) = false
is_text (Some columns.Scope) = false
is_text (Some columns.Code) = false
is_text (Some columns.Language) = false
is_text (Some columns.Category) = false
is_text (Some columns.Period) = false
is_text (Some columns.Broadcasts) = false
is_text (Some columns.Cells) = false
is_text (Some columns.Text) = true

abbrev pub planned_field : (areas : List Area) → Option Column → List ℕ → List ℕ
planned_field areas kind field = if is_text kind then field else field_text areas kind (trimmed field)

-- the column of a place of a verb's row, counted from 0, after the verb
abbrev pub kind_at : Option Verb → (place : ℕ) → Option Column
kind_at None place = None
kind_at (Some verb) place = slice_get (columns_after verb) (place - 1)

-- the fields from a place on
abbrev pub fields_from : (areas : List Area) → Option Verb → (place : ℕ) → List (List ℕ) → List (List ℕ)
fields_from areas verb place [] = []
fields_from areas verb place (field ∷ fields) =
    planned_field areas (kind_at verb place) field ∷ fields_from areas verb (place + 1) fields

-- the fields without the empty ones behind the columns of a verb
abbrev pub cut_fields : Option Verb → List (List ℕ) → List (List ℕ)
cut_fields None fields = fields
cut_fields (Some verb) fields =
    if list_all is_empty_field (drop (columns_of verb) fields) then take (columns_of verb) fields else fields

abbrev pub planned_as : (areas : List Area) → (word : List ℕ) → (fields : List (List ℕ)) → List (List ℕ)
planned_as areas word fields = word ∷ fields_from areas (verb_of word) 1 (drop 1 (cut_fields (verb_of word) fields))

-- the row of the book that a row of a plan gives
abbrev pub planned_row : (areas : List Area) → (fields : List (List ℕ)) → List (List ℕ)
planned_row areas fields = planned_as areas (word_of fields) fields

-- All rows

-- a row of the book, and the number of the plan's row that it comes from, counted from 1
abbrev pub planned_with : (row : ℕ) → (fields : List (List ℕ)) → Planned
planned_with row fields = record { row = row; fields = fields }

-- a field that doesn't begin with a digit
abbrev pub begins_with_digit : List ℕ → Bool
begins_with_digit [] = false
begins_with_digit (octet ∷ field) = is_ascii_digit octet

abbrev pub is_heading : List ℕ → Bool
is_heading field = not (begins_with_digit (trimmed field))

-- headings: they begin with none of the five words, and no field of theirs with a digit, so that an order whose word is
-- wrong isn't taken for them
abbrev pub are_headings : (fields : List (List ℕ)) → Bool
are_headings fields = not (is_some (verb_of (word_of fields))) && list_all is_heading fields

-- an area gives no row, nor does the first row that counts, if it is headings
abbrev pub gives_none : (first : Bool) → (fields : List (List ℕ)) → Bool
gives_none first fields = is_area fields || (first && are_headings fields)

abbrev pub rows_given : (areas : List Area) → (row : ℕ) → (first : Bool) → (fields : List (List ℕ))
    → List Planned
rows_given areas row first fields =
    if gives_none first fields then [] else planned_with row (planned_row areas fields) ∷ []

-- what the rows from this number on give
abbrev pub rows_from : (areas : List Area) → (row : ℕ) → (first : Bool)
    → (records : List (List (List ℕ))) → List Planned
rows_from areas row first [] = []
rows_from areas row first (fields ∷ records) =
    if is_left_out fields then rows_from areas (row + 1) first records
    else rows_given areas row first fields ++ rows_from areas (row + 1) false records

-- The cells that no row declares

-- the field of a place, counted from 0; nothing where there is none
abbrev pub text_at : (fields : List (List ℕ)) → (place : ℕ) → List ℕ
text_at fields place = unwrap_or (slice_get fields place) []

-- the cell that a row declares, if it does
abbrev pub declared_as : Option Verb → (fields : List (List ℕ)) → Option Cell
declared_as None fields = None
declared_as (Some verbs.Cell) fields =
    cell_from (number_within 0 65535 (text_at fields 1)) (number_within 0 65535 (text_at fields 2))
declared_as (Some verbs.Write) fields = None
declared_as (Some verbs.Update) fields = None
declared_as (Some verbs.Stop) fields = None

abbrev pub declared_in : Planned → Option Cell
declared_in planned = declared_as (verb_of (text_at planned.fields 0)) planned.fields

-- where CELLS stands
abbrev pub cells_place : Option Verb → Option ℕ
cells_place None = None
cells_place (Some verbs.Cell) = None
cells_place (Some verbs.Write) = Some 10
cells_place (Some verbs.Update) = Some 7
cells_place (Some verbs.Stop) = Some 3

-- the cells that a row names
abbrev pub named_at : (fields : List (List ℕ)) → Option ℕ → List Cell
named_at fields None = []
named_at fields (Some place) = filter_map cell_named (parts_of (text_at fields place))

abbrev pub named_in : Planned → List Cell
named_in planned = named_at planned.fields (cells_place (verb_of (text_at planned.fields 0)))

-- a cell that rows name and none declares, and the number of the first row that names it
abbrev pub new_cell : Cell → (row : ℕ) → NewCell
new_cell cell row = record { cell = cell; row = row }

abbrev pub is_among_new : (new : List NewCell) → Cell → Bool
is_among_new new cell = list_any (λ (n : NewCell). is_cell n.cell cell) new

abbrev pub is_known : (declared : List Cell) → (new : List NewCell) → Cell → Bool
is_known declared new cell = is_among declared cell || is_among_new new cell

-- the new cells with one more that a row names; of more than a book has cells one too many is enough
abbrev pub with_cell : (declared : List Cell) → (row : ℕ) → (new : List NewCell) → Cell → List NewCell
with_cell declared row new cell =
    if nat_le (most_cells + 1) (length new) || is_known declared new cell then new
    else new ++ new_cell cell row ∷ []

abbrev pub with_cells : (declared : List Cell) → (row : ℕ) → (new : List NewCell) → List Cell → List NewCell
with_cells declared row new [] = new
with_cells declared row new (cell ∷ cells) = with_cells declared row (with_cell declared row new cell) cells

abbrev pub with_rows : (declared : List Cell) → (new : List NewCell) → List Planned → List NewCell
with_rows declared new [] = new
with_rows declared new (planned ∷ rows) =
    with_rows declared (with_cells declared planned.row new (named_in planned)) rows

abbrev pub new_cells : List Planned → List NewCell
new_cells rows = with_rows (filter_map declared_in rows) [] rows

-- the row that declares it
abbrev pub cell_row : NewCell → Planned
cell_row new = planned_with new.row (codes "cell" ∷ decimal new.cell.lac ∷ decimal new.cell.ci ∷ [])

abbrev pub with_new_cells : List Planned → List Planned
with_new_cells rows = map cell_row (new_cells rows) ++ rows

-- the rows of the book of a plan with these rows: those that declare new cells, and then those that these rows give
abbrev pub planned_rows : (records : List (List (List ℕ))) → List Planned
planned_rows records = with_new_cells (rows_from (areas_of records) 1 true records)
