-- Cells in a plan: lists with other separators, ranges, and areas, which are sets of cells with a name. Own.
use Rattle.std.specs.Prelude.{◌==◌, ◌||◌, ◌&&◌, ℕ, zero, suc, ◌+◌, ◌-◌, nat_le, nat_lt, Bool, if◌then◌else◌, Option}
use Rattle.std.specs.Prelude.{Some, None}
use Rattle.std.specs.Prelude.{List, [], ◌∷◌, ◌++◌, codes, drop, find, length, take}
use Rattle.std.specs.Fmt.{decimal}
use Rattle.std.specs.List.{after_first, before_first, flat_map}
use Rattle.std.specs.Str.{bytes_eq}
use Rattle.alert_book.specs.Cells.{is_dash}
use Rattle.alert_book.specs.Fields.{column}
use Rattle.alert_book.specs.Number.{number_within}
use Rattle.plan.specs.PlanText.{trimmed}
use Rattle.plan.specs.declared.cells.area.Area.{Area}
use Rattle.plan.specs.declared.cells.range.CellRange.{CellRange}

-- what may stand between cells: white space, commas and semicolons
abbrev pub is_gap : ℕ → Bool
is_gap octet = (octet == 32) || ((octet == 44) || ((octet == 59) || ((octet == 9) || ((octet == 10) || (octet == 13)))))

abbrev pub unless_empty : List ℕ → List (List ℕ)
unless_empty part = if length part == 0 then [] else part ∷ []

-- the parts of a text between its gaps; `part` is what stands before it
abbrev pub parts_after : (part text : List ℕ) → List (List ℕ)
parts_after part [] = unless_empty part
parts_after part (octet ∷ text) =
    if is_gap octet then unless_empty part ++ parts_after [] text else parts_after (part ++ octet ∷ []) text

abbrev pub parts_of : List ℕ → List (List ℕ)
parts_of text = parts_after [] text

-- a cell as a book names it
abbrev pub cell_text : (lac ci : ℕ) → List ℕ
cell_text lac ci = decimal lac ++ (codes "-" ++ decimal ci)

-- so many cells of a LAC, from this CI on
abbrev pub cells_from : (lac ci count : ℕ) → List (List ℕ)
cells_from lac ci zero = []
cells_from lac ci (suc count) = cell_text lac ci ∷ cells_from lac (ci + 1) count

-- the most cells that a book has
abbrev pub most_cells : ℕ
most_cells = 64

-- a range of cells, from the first CI to the last, both among them; one without a cell, or with more than a book has,
-- is none
abbrev pub range_with : (lac first last : ℕ) → CellRange
range_with lac first last = record { lac = lac; first = first; last = last }

abbrev pub range_from : Option ℕ → Option ℕ → Option ℕ → Option CellRange
range_from None first last = None
range_from (Some lac) None last = None
range_from (Some lac) (Some first) None = None
range_from (Some lac) (Some first) (Some last) =
    if nat_le first last && nat_lt (last - first) most_cells then Some (range_with lac first last) else None

abbrev pub is_dot : ℕ → Bool
is_dot octet = octet == 46

-- the number behind two dots, the first ones of a text
abbrev pub after_two_dots : List ℕ → Option ℕ
after_two_dots text =
    if length (before_first is_dot (after_first is_dot text)) == 0
    then number_within 0 65535 (after_first is_dot (after_first is_dot text))
    else None

-- `LAC-CI..CI`
abbrev pub range_of : List ℕ → Option CellRange
range_of part =
    let cis = after_first is_dash part in
    range_from (number_within 0 65535 (before_first is_dash part)) (number_within 0 65535 (before_first is_dot cis))
    (after_two_dots cis)

-- the cells of a part, where it is a range, and else the part itself
abbrev pub or_part : List ℕ → Option CellRange → List (List ℕ)
or_part part None = part ∷ []
or_part part (Some range) = cells_from range.lac range.first (range.last - range.first + 1)

abbrev pub ranged : List ℕ → List (List ℕ)
ranged part = or_part part (range_of part)

-- the cells of an area's parts; of more parts than a book has cells one too many is enough
abbrev pub area_cells : (parts : List (List ℕ)) → List (List ℕ)
area_cells parts =
    if nat_le (length parts) most_cells then flat_map ranged parts else take (most_cells + 1) parts

-- the area of a row `area`, NAME and fields with cells
abbrev pub area_of : (fields : List (List ℕ)) → Area
area_of fields =
    record { name = trimmed (column fields 1); cells = area_cells (flat_map parts_of (drop 2 fields)) }

abbrev pub is_named : (name : List ℕ) → Area → Bool
is_named name area = bytes_eq area.name name

-- the first of these areas that has a name
abbrev pub area_named : (areas : List Area) → (name : List ℕ) → Option Area
area_named areas name = find (is_named name) areas

abbrev pub cells_or : Option Area → List (List ℕ) → List (List ℕ)
cells_or None other = other
cells_or (Some area) other = area.cells

-- the cells of a part: those of the area that it names, those of its range, or itself
abbrev pub part_cells : (areas : List Area) → List ℕ → List (List ℕ)
part_cells areas part = cells_or (area_named areas part) (ranged part)

-- the cells of a field: those of the area that it names as a whole, or of its parts
abbrev pub field_cells : (areas : List Area) → List ℕ → List (List ℕ)
field_cells areas field = cells_or (area_named areas field) (flat_map (part_cells areas) (parts_of field))

-- texts with one space between two
abbrev pub joined : List (List ℕ) → List ℕ
joined texts = drop 1 (flat_map (λ (text : List ℕ). 32 ∷ text) texts)

-- what stands in the book for a field of CELLS; one with more cells than a book has stays as it is
abbrev pub cells_text : (areas : List Area) → List ℕ → List ℕ
cells_text areas field =
    if nat_le (length (parts_of field)) most_cells && nat_le (length (field_cells areas field)) most_cells
    then joined (field_cells areas field)
    else field
