-- What is kept of the tapes of a run so far (own), and when that stands for a list of tapes.
use Rattle.std.specs.Prelude.{◌≡◌, ℕ, true, false, ◌==◌, if◌then◌else◌, Option, Some, None, List, [], ◌∷◌, ◌++◌}
use Rattle.std.specs.Prelude.{map, find, All}
use Rattle.std.specs.List.{flat_map, list_any}
use Rattle.cbsp_wire.specs.declared.message.Cell.{Cell}
use Rattle.bsc_table.specs.Record.{Record}
use Rattle.verification.specs.declared.detail.Detail.{Detail}
use Rattle.verification.specs.declared.detail.Detail.TheVariants as detail
use Rattle.verification.specs.declared.detail.TableLayout.{TableLayout}
use Rattle.verification.specs.declared.difference.Difference.{Difference}
use Rattle.verification.specs.declared.judgement.CellFinding.{CellFinding}
use Rattle.verification.specs.declared.judgement.CellFinding.TheVariants as found
use Rattle.verification.specs.declared.judgement.CellState.{CellState}
use Rattle.verification.specs.declared.row.Row.{Row}
use Rattle.verification.specs.Difference.{AreDifferences}
use Rattle.handset.specs.Recording.{TapeRecording}
use Rattle.slot_times.specs.declared.start.Start.{Start}
use Rattle.verification.specs.Rows.{is_tape_of, other_rows, AreRows}
use Rattle.verification.specs.Shift.{is_untimely}
use Rattle.verification.specs.Table.{difference_lines, shift_lines, IsTable}

-- how the table is laid out, the cells of the run, each with what was found of it, the cells of the tapes, and the rows
-- of tapes that aren't judged
pub record FindingsState : Type 0 where
  pub layout : TableLayout
  pub cells : List CellState
  pub seen : List Cell
  pub others : List Row

-- the lines of a cell's differences, after that of the shift of its pages
abbrev pub shift_lines_for : Option Start → Record → (blocks : List (List ℕ)) → List Difference → List ℕ
shift_lines_for start r blocks differences =
    if list_any (λ d. is_untimely d.kind) differences then shift_lines start r blocks else []

abbrev pub explained_lines : Option Start → Record → (blocks : List (List ℕ)) → List Difference → List ℕ
explained_lines start r blocks differences =
    shift_lines_for start r blocks differences ++ flat_map (difference_lines start r blocks) differences

-- the lines that are told of a cell's differences, where more than these is told
abbrev pub lines_with : Detail → Option Start → Record → (blocks : List (List ℕ)) → List Difference → List ℕ
lines_with detail.Plain start r blocks differences = []
lines_with detail.Explained start r blocks differences = explained_lines start r blocks differences

abbrev pub lines_told : TableLayout → Record → (blocks : List (List ℕ)) → List Difference → List ℕ
lines_told layout r blocks differences = lines_with layout.detail layout.start r blocks differences

-- what was found of a cell by a tape of these slots and blocks
abbrev pub IsFoundIn : TableLayout → Record → (slots : ℕ) → (blocks : List (List ℕ)) → CellFinding → Type 0
IsFoundIn layout r slots blocks found.NoTape = ⊥
IsFoundIn layout r slots blocks found.OtherSlots = (slots == r.slots) ≡ false
IsFoundIn layout r slots blocks (found.Judged differences lines) =
    ((slots == r.slots) ≡ true) × AreDifferences r blocks differences.items
    × (lines.items ≡ lines_told layout r blocks differences.items)

-- and by its first tape, if it has one
abbrev pub IsFoundBy : TableLayout → Record → Option TapeRecording → CellFinding → Type 0
IsFoundBy layout r None finding = finding ≡ found.NoTape
IsFoundBy layout r (Some tape) finding = IsFoundIn layout r tape.slots tape.blocks finding

abbrev pub IsFound : TableLayout → List TapeRecording → CellState → Type 0
IsFound layout tapes c = IsFoundBy layout c.run (find (is_tape_of c.run.cell) tapes) c.finding

-- a cell before any tape
abbrev pub unjudged : Record → CellState
unjudged r = record { run = r; finding = found.NoTape }

-- what is kept stands for these tapes, in a table of that layout
pub record HasTaken (layout : TableLayout) (records : List Record) (findings : FindingsState)
    (tapes : List TapeRecording) : Type 0
  where
    pub layout_is : findings.layout ≡ layout
    pub cells : map (λ c. c.run) findings.cells ≡ records
    pub found : All (IsFound layout tapes) findings.cells
    pub seen : findings.seen ≡ map (λ tape. tape.cell) tapes
    pub others : findings.others ≡ other_rows records [] tapes

-- a further tape is taken
abbrev pub TakesTape : (old new : FindingsState) → TapeRecording → Type 0
TakesTape old new tape = (layout : TableLayout) (records : List Record) (tapes : List TapeRecording)
    → HasTaken layout records old tapes
    → HasTaken layout records new (tapes ++ tape ∷ [])

-- the rows are those of the tapes that were taken
abbrev pub AreRowsOfTaken : FindingsState → List Row → Type 0
AreRowsOfTaken findings rows = (layout : TableLayout) (records : List Record) (tapes : List TapeRecording)
    → HasTaken layout records findings tapes
    → AreRows records tapes rows

-- these rows and their text are the table of the tapes that were taken
abbrev pub IsTableOfTaken : FindingsState → List Row → (text : List ℕ) → Type 0
IsTableOfTaken findings rows text = (layout : TableLayout) (records : List Record) (tapes : List TapeRecording)
    → HasTaken layout records findings tapes
    → IsTable layout records tapes rows text
