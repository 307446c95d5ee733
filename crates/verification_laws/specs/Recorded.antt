-- What the tape of a record holds (own).
use Rattle.std.specs.Prelude.{◌≡◌, ◌≤◌}
use Rattle.bsc_table.specs.Record.{Record}
use Rattle.bsc_table.specs.Legal.{IsLegal}
use Rattle.cbch_blocks.specs.RecordBlocks.{tape_of_record}
use Rattle.handset.specs.Recording.{HoldsRecording}
use Rattle.handset.specs.Tape.{max_slots}
use Rattle.verification_laws.specs.OwnTapes.{recording_of}

-- the tape of a record whose run is over holds its cell, its slots and its blocks
abbrev pub RecordsAreRecorded : Type 0
RecordsAreRecorded = (r : Record)
    → IsLegal r
    → r.clock ≡ r.slots
    → r.slots ≤ max_slots
    → HoldsRecording (tape_of_record r) (recording_of r)
