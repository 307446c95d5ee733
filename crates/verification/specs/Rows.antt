-- What tapes have of what the cells of a run were asked (own): the rows of the cells in the order of their records, of
-- each by the first of its tapes, and then those of the tapes of no cell and of cells that had one.
use Rattle.std.specs.Prelude.{◌≡◌, ℕ, Bool, ◌==◌, if◌then◌else◌, Option, Some, None, List, []}
use Rattle.std.specs.Prelude.{◌∷◌, ◌++◌, map, find, MatchBool}
use Rattle.std.specs.List.{list_any}
use Rattle.cbsp_wire.specs.declared.message.Cell.{Cell}
use Rattle.cbsp_wire.specs.Range.{is_cell}
use Rattle.handset.specs.Recording.{TapeRecording}
use Rattle.bsc_table.specs.Record.{Record}
use Rattle.verification.specs.declared.difference.Difference.{Difference}
use Rattle.verification.specs.declared.row.Row.{Row}
use Rattle.verification.specs.declared.row.Finding.{Finding}
use Rattle.verification.specs.declared.row.Finding.TheVariants as findings
use Rattle.verification.specs.Difference.{AreDifferences}

abbrev pub tape_of : Cell → (slots : ℕ) → (blocks : List (List ℕ)) → TapeRecording
tape_of cell slots blocks = record { cell = cell; slots = slots; blocks = blocks }

abbrev pub is_tape_of : Cell → TapeRecording → Bool
is_tape_of cell tape = is_cell cell tape.cell

abbrev pub finding_row : Cell → Finding → Row
finding_row cell finding = record { cell = cell; finding = finding }

abbrev pub difference_row : Cell → Difference → Row
difference_row cell d = finding_row cell (findings.Differs d)

-- the rows of a cell whose tape has these slots and blocks: nothing but its number of slots is judged if that isn't the
-- run's
pub record AreJudged (r : Record) (blocks : List (List ℕ)) (rows : List Row) : Type 0 where
  pub found : List Difference
  pub differences : AreDifferences r blocks found
  pub rows_are : rows ≡ map (difference_row r.cell) found

abbrev pub AreTapeRows : Record → TapeRecording → List Row → Type 0
AreTapeRows r tape rows =
    MatchBool (tape.slots == r.slots) (AreJudged r tape.blocks rows)
    (rows ≡ finding_row r.cell findings.OtherSlots ∷ [])

-- and by its first tape, if it has one
abbrev pub AreRowsBy : Record → Option TapeRecording → List Row → Type 0
AreRowsBy r None rows = rows ≡ finding_row r.cell findings.NoTape ∷ []
AreRowsBy r (Some tape) rows = AreTapeRows r tape rows

abbrev pub AreCellRows : List TapeRecording → Record → List Row → Type 0
AreCellRows tapes r rows = AreRowsBy r (find (is_tape_of r.cell) tapes) rows

-- the rows of the cells, one after another
abbrev pub AreRowsOfCells : List TapeRecording → List Record → List Row → Type 0
AreRowsOfCells tapes [] rows = rows ≡ []
AreRowsOfCells tapes (r ∷ records) rows =
    (own : List Row) × (later : List Row) × (rows ≡ own ++ later)
    × AreCellRows tapes r own × AreRowsOfCells tapes records later

-- a tape, after those before it: of no cell of the run, or of one that had a tape
abbrev pub is_known : List Record → Cell → Bool
is_known records cell = list_any (λ r. is_cell cell r.cell) records

abbrev pub other_row : List Record → (before : List TapeRecording) → TapeRecording → List Row
other_row records before tape =
    if is_known records tape.cell
    then (if list_any (is_tape_of tape.cell) before then finding_row tape.cell findings.SecondTape ∷ [] else [])
    else finding_row tape.cell findings.UnknownCell ∷ []

abbrev pub other_rows : List Record → (before tapes : List TapeRecording) → List Row
other_rows records before [] = []
other_rows records before (tape ∷ later) =
    other_row records before tape ++ other_rows records (before ++ tape ∷ []) later

-- the rows of the cells of these records, of which these tapes were given
pub record AreRows (records : List Record) (tapes : List TapeRecording) (rows : List Row) : Type 0 where
  pub cells : List Row
  pub of_cells : AreRowsOfCells tapes records cells
  pub all : rows ≡ cells ++ other_rows records [] tapes
