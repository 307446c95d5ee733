-- What is found of a tape is one list, and its table one text (own).
use Rattle.std.specs.Prelude.{◌≡◌, ℕ, List, []}
use Rattle.bsc_table.specs.Record.{Record}
use Rattle.verification.specs.declared.detail.TableLayout.{TableLayout}
use Rattle.verification.specs.declared.difference.Difference.{Difference}
use Rattle.verification.specs.declared.row.Row.{Row}
use Rattle.verification.specs.Difference.{AreDifferences}
use Rattle.verification.specs.Rows.{AreRows}
use Rattle.verification.specs.Table.{IsTable, empty_table}
use Rattle.handset.specs.Recording.{TapeRecording}

-- the differences between a cell's record and blocks are one list: no two that differ have one place in their order
abbrev pub CellsDifferInOneList : Type 0
CellsDifferInOneList = (r : Record) (blocks : List (List ℕ)) (found other : List Difference)
    → AreDifferences r blocks found
    → AreDifferences r blocks other
    → found ≡ other

-- so are the rows of the tapes of a run
abbrev pub TapesHaveOneListOfRows : Type 0
TapesHaveOneListOfRows = (records : List Record) (tapes : List TapeRecording) (rows other : List Row)
    → AreRows records tapes rows
    → AreRows records tapes other
    → rows ≡ other

-- and so is their table, however it is laid out
abbrev pub TapesHaveOneTable : Type 0
TapesHaveOneTable = (layout : TableLayout) (records : List Record) (tapes : List TapeRecording) (rows other : List Row)
    (text said : List ℕ)
    → IsTable layout records tapes rows text
    → IsTable layout records tapes other said
    → (rows ≡ other) × (text ≡ said)

-- the table of no rows has the names of its columns alone
abbrev pub NoRowsAreAnEmptyTable : Type 0
NoRowsAreAnEmptyTable = (layout : TableLayout) (records : List Record) (tapes : List TapeRecording)
    → AreRows records tapes []
    → IsTable layout records tapes [] (empty_table layout)
