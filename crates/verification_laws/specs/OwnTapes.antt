-- What is found of the tapes of cells' own records: nothing (own).
use Rattle.std.specs.Prelude.{◌≡◌, true, List, [], map, All}
use Rattle.std.specs.List.Sorted.{IsPermutation}
use Rattle.cbsp_wire.specs.Range.{are_distinct}
use Rattle.bsc_table.specs.Record.{Record}
use Rattle.bsc_table.specs.Legal.{IsLegal}
use Rattle.cbch_blocks.specs.RecordBlocks.{blocks_of}
use Rattle.handset.specs.Recording.{TapeRecording}
use Rattle.verification.specs.declared.difference.Difference.{Difference}
use Rattle.verification.specs.declared.row.Row.{Row}
use Rattle.verification.specs.Asked.{asked_of_log}
use Rattle.verification.specs.Difference.{AreDifferences, all_differences}
use Rattle.verification.specs.Rows.{AreRows}
use Rattle.verification.specs.Sent.{sent_in}

-- the blocks of a legal history whose run is over keep all that the cell was asked
abbrev pub OwnTapesDifferNowhere : Type 0
OwnTapesDifferNowhere = (r : Record)
    → IsLegal r
    → r.clock ≡ r.slots
    → all_differences r.slots (asked_of_log r.log) (sent_in (blocks_of r)) ≡ []

-- so nothing is what is found of them, and nothing else is
abbrev pub OwnTapesKeepTheirCells : Type 0
OwnTapesKeepTheirCells = (r : Record) → IsLegal r → r.clock ≡ r.slots → AreDifferences r (blocks_of r) []

abbrev pub NothingIsFound : Type 0
NothingIsFound = (r : Record) (found : List Difference)
    → IsLegal r
    → r.clock ≡ r.slots
    → AreDifferences r (blocks_of r) found
    → found ≡ []

-- a record's own tape
abbrev pub recording_of : Record → TapeRecording
recording_of r = record { cell = r.cell; slots = r.slots; blocks = blocks_of r }

-- legal histories of distinct cells, whose runs are over, and their own tapes, in any order
pub record AreOwnTapes (records : List Record) (tapes : List TapeRecording) : Type 0 where
  pub legal : All IsLegal records
  pub ended : All (λ r. r.clock ≡ r.slots) records
  pub distinct : are_distinct (map (λ r. r.cell) records) ≡ true
  pub own : IsPermutation (map recording_of records) tapes

-- they have no rows, and nothing else is what they have
abbrev pub OwnTapesHaveNoRows : Type 0
OwnTapesHaveNoRows = (records : List Record) (tapes : List TapeRecording)
    → AreOwnTapes records tapes
    → AreRows records tapes []

abbrev pub NoRowsAreFound : Type 0
NoRowsAreFound = (records : List Record) (tapes : List TapeRecording) (rows : List Row)
    → AreOwnTapes records tapes
    → AreRows records tapes rows
    → rows ≡ []
