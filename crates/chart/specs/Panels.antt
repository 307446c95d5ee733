-- The sections of cells (own): cells whose sections have the same contents have one, and an overview comes before all.
use Rattle.std.specs.Prelude.{ℕ, ◌+◌, ◌-◌, ◌==◌, ◌&&◌, nat_le, Bool, true, if◌then◌else◌, List, [], ◌∷◌, ◌++◌, filter}
use Rattle.std.specs.Prelude.{length, map, slice_get, take}
use Rattle.std.specs.Fmt.{decimal}
use Rattle.std.specs.List.{flat_map, list_any, range_with_len}
use Rattle.std.specs.Option.{option_map_or}
use Rattle.std.specs.Str.{bytes_eq}
use Rattle.cbsp_wire.specs.declared.message.Cell.{Cell}
use Rattle.chart.specs.declared.panel.Panel.{Panel}
use Rattle.chart.specs.declared.section.TheConstants as sections
use Rattle.chart.specs.declared.word.Wording.{Wording}
use Rattle.chart.specs.declared.word.Word.TheVariants as words
use Rattle.chart.specs.Words.{word_by}

-- whether two sections have the same contents
abbrev pub is_like : Panel → Panel → Bool
is_like p other = bytes_eq other.contents p.contents

abbrev pub is_any_like : Panel → List Panel → Bool
is_any_like p others = list_any (is_like p) others

-- the cells whose sections have the contents of this one
abbrev pub cells_like : Panel → List Panel → List Cell
cells_like p all = map (λ other. other.cell) (filter (is_like p) all)

-- the name of a cell
unfoldable pub cell_name : Cell → List ℕ
cell_name cell = decimal cell.lac ++ sections.DASH.now ++ decimal cell.ci

-- whether cells have this location area code, and cell identities from this one on without a gap
abbrev pub are_in_turn : (lac ci : ℕ) → List Cell → Bool
are_in_turn lac ci [] = true
are_in_turn lac ci (cell ∷ cells) = (cell.lac == lac) && (cell.ci == ci) && are_in_turn lac (ci + 1) cells

-- the names of several cells: the first and the last one, if they are in turn, and else all
unfoldable pub span_text : Wording → (first : Cell) → (number : ℕ) → List ℕ
span_text w first number =
    cell_name first ++ word_by w words.To ++ decimal first.lac ++ sections.DASH.now ++ decimal (first.ci + (number - 1))
    ++ sections.COMMA.now

unfoldable pub listed_text : Cell → List ℕ
listed_text cell = cell_name cell ++ sections.COMMA.now

abbrev pub names_text : Wording → (first : Cell) → List Cell → List ℕ
names_text w first cells =
    if are_in_turn first.lac first.ci cells then span_text w first (length cells)
    else flat_map listed_text cells

-- the heading of cells
unfoldable pub one_heading : Wording → Cell → List ℕ
one_heading w cell = word_by w words.Cell ++ cell_name cell

unfoldable pub heading_of_all : Wording → (first : Cell) → List Cell → List ℕ
heading_of_all w first cells =
    word_by w words.Cells ++ names_text w first cells ++ decimal (length cells) ++ word_by w words.CellsEnd

abbrev pub heading : Wording → (first : Cell) → List Cell → List ℕ
heading w first cells = if nat_le (length cells) 1 then one_heading w first else heading_of_all w first cells

-- the section of cells with the same contents
unfoldable pub section_front : Wording → (first : Cell) → List Cell → List ℕ
section_front w first cells =
    sections.SECTION.now ++ cell_name first ++ sections.SECTION_NAME.now ++ heading w first cells

-- it stands where the first of them does
abbrev pub section_by : Wording → (before all : List Panel) → Panel → List ℕ
section_by w before all p =
    if is_any_like p before then [] else section_front w p.cell (cells_like p all) ++ p.contents

abbrev pub section_at : Wording → List Panel → (place : ℕ) → List ℕ
section_at w all place = option_map_or (section_by w (take place all) all) (slice_get all place) []

-- what the overview has of cells with the same contents: the name of the first, how many more there are, and its strip
unfoldable pub more_text : Wording → (more : ℕ) → List ℕ
more_text w more = word_by w words.And ++ decimal more ++ word_by w words.More

abbrev pub more_if : Wording → (more : ℕ) → List ℕ
more_if w more = if more == 0 then [] else more_text w more

unfoldable pub strip_front : Wording → (first : Cell) → (number : ℕ) → List ℕ
strip_front w first number =
    sections.STRIP.now ++ cell_name first ++ sections.STRIP_NAME.now ++ cell_name first ++ more_if w (number - 1)
    ++ sections.STRIP_PICTURE.now

abbrev pub strip_by : Wording → (before all : List Panel) → Panel → List ℕ
strip_by w before all p =
    if is_any_like p before then [] else strip_front w p.cell (length (cells_like p all)) ++ p.strip

abbrev pub strip_at : Wording → List Panel → (place : ℕ) → List ℕ
strip_at w all place = option_map_or (strip_by w (take place all) all) (slice_get all place) []

-- there is no overview of one cell
abbrev pub overview_front : Wording → List ℕ
overview_front w = sections.OVERVIEW.now ++ word_by w words.Overview ++ sections.OVERVIEW_NAMED.now

abbrev pub overview : Wording → List Panel → List ℕ
overview w all =
    if nat_le (length all) 1 then []
    else overview_front w ++ flat_map (strip_at w all) (range_with_len 0 (length all)) ++ sections.OVERVIEW_END.now

abbrev pub sections_text : Wording → List Panel → List ℕ
sections_text w all = overview w all ++ flat_map (section_at w all) (range_with_len 0 (length all))
