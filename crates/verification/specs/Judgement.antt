-- What one tape finds of the cells of a run (own), whichever tapes are taken before it is.
use Rattle.std.specs.Prelude.{◌≡◌, true, false, Option, Some, None, List, [], ◌∷◌, ◌++◌}
use Rattle.std.specs.List.{AllZip, list_any}
use Rattle.cbsp_wire.specs.Range.{is_cell}
use Rattle.bsc_table.specs.Record.{Record}
use Rattle.handset.specs.Recording.{TapeRecording}
use Rattle.verification.specs.declared.detail.TableLayout.{TableLayout}
use Rattle.verification.specs.declared.judgement.CellFinding.{CellFinding}
use Rattle.verification.specs.Found.{FindingsState, HasTaken, IsFoundIn}
use Rattle.verification.specs.Rows.{is_tape_of}

-- what a tape finds of a cell, if it is of it
abbrev pub IsFoundOf : TableLayout → TapeRecording → Record → Option CellFinding → Type 0
IsFoundOf layout tape r None = is_cell r.cell tape.cell ≡ false
IsFoundOf layout tape r (Some finding) =
    (is_cell r.cell tape.cell ≡ true) × IsFoundIn layout r tape.slots tape.blocks finding

-- what a tape finds of each cell of a run, if none of the tapes before it is of its cell: a second tape isn't judged
abbrev pub AreFoundOf : TableLayout → List Record → (before : List TapeRecording) → TapeRecording →
    List (Option CellFinding) → Type 0
AreFoundOf layout records before tape found =
    list_any (is_tape_of tape.cell) before ≡ false → AllZip (IsFoundOf layout tape) records found

-- that is found of a tape which comes after those that were taken
abbrev pub FindsOf : FindingsState → TapeRecording → List (Option CellFinding) → Type 0
FindsOf findings tape found = (layout : TableLayout) (records : List Record) (tapes : List TapeRecording)
    → HasTaken layout records findings tapes
    → AreFoundOf layout records tapes tape found

-- a further tape is taken, of which that was found
abbrev pub TakesJudged : (old new : FindingsState) → TapeRecording → List (Option CellFinding) → Type 0
TakesJudged old new tape found = (layout : TableLayout) (records : List Record) (tapes : List TapeRecording)
    → HasTaken layout records old tapes
    → AreFoundOf layout records tapes tape found
    → HasTaken layout records new (tapes ++ tape ∷ [])
