-- The rows of the tapes of a run are one list, since the differences of a cell are.
use Rattle.std.proofs.Common.{◌≡◌, ◌∙◌, Bool, true, false, List, [], ◌∷◌, ◌++◌, Option, Some, None, map, sym, ap}
use Rattle.std.specs.Prelude.{◌==◌, MatchBool, find}
use Rattle.handset.specs.Recording.{TapeRecording}
use Rattle.bsc_table.specs.Record.{Record}
use Rattle.verification.specs.declared.row.Row.{Row}
use Rattle.verification.specs.declared.row.Finding.TheVariants as findings
use Rattle.verification.specs.Rows.{AreJudged, AreRowsBy, AreRowsOfCells, difference_row}
use Rattle.verification.specs.Rows.{is_tape_of, other_rows, finding_row}
use Rattle.verification_laws.specs.OneList.{CellsDifferInOneList, TapesHaveOneListOfRows}

judged-one : CellsDifferInOneList → (r : Record) (tape : TapeRecording) (rows other : List Row) →
    AreJudged r tape.blocks rows → AreJudged r tape.blocks other → rows ≡ other
judged-one one r tape rows other are also =
    are.rows_are
    ∙ ap (map (difference_row r.cell)) (one r tape.blocks are.found also.found are.differences also.differences)
    ∙ sym also.rows_are

either-one : CellsDifferInOneList → (r : Record) (tape : TapeRecording) (same : Bool) (rows other : List Row) →
    MatchBool same (AreJudged r tape.blocks rows) (rows ≡ finding_row r.cell findings.OtherSlots ∷ []) →
    MatchBool same (AreJudged r tape.blocks other) (other ≡ finding_row r.cell findings.OtherSlots ∷ []) → rows ≡ other
either-one one r tape true rows other are also = judged-one one r tape rows other are also
either-one one r tape false rows other are also = are ∙ sym also

-- the rows of a cell by one tape are one list
pub by-one : CellsDifferInOneList → (r : Record) (tape : Option TapeRecording) (rows other : List Row) →
    AreRowsBy r tape rows → AreRowsBy r tape other → rows ≡ other
by-one one r None rows other are also = are ∙ sym also
by-one one r (Some tape) rows other are also = either-one one r tape (tape.slots == r.slots) rows other are also

cells-one : CellsDifferInOneList → (tapes : List TapeRecording) (records : List Record) (rows other : List Row) →
    AreRowsOfCells tapes records rows → AreRowsOfCells tapes records other → rows ≡ other
cells-one one tapes [] rows other are also = are ∙ sym also
cells-one one tapes (r ∷ records) rows other (own, later, is, by, rest) (own2, later2, is2, by2, rest2) =
    is
    ∙ ap (λ front. front ++ later) (by-one one r (find (is_tape_of r.cell) tapes) own own2 by by2)
    ∙ ap (λ back. own2 ++ back) (cells-one one tapes records later later2 rest rest2)
    ∙ sym is2

-- the rows of all tapes are one list
pub one-list-of-rows : CellsDifferInOneList → TapesHaveOneListOfRows
one-list-of-rows one records tapes rows other are also =
    are.all
    ∙ ap (λ cells. cells ++ other_rows records [] tapes)
    (cells-one one tapes records are.cells also.cells are.of_cells also.of_cells)
    ∙ sym also.all
