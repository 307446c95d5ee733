-- Records with the same accepted writes and kills have the same blocks (own).
use Rattle.std.specs.Prelude.{◌≡◌}
use Rattle.bsc_table.specs.Record.{Record}
use Rattle.bsc_table.specs.Refusals.{accepted_entries}
use Rattle.bsc_table.specs.Legal.{IsLegal}
use Rattle.cbch_blocks.specs.RecordBlocks.{blocks_of}

-- whatever else was refused or asked, and in cells of whatever names and runs of whatever lengths
abbrev pub SameAcceptedSameBlocks : Type 0
SameAcceptedSameBlocks = (r other : Record)
    → IsLegal r
    → IsLegal other
    → r.clock ≡ other.clock
    → accepted_entries r.log ≡ accepted_entries other.log
    → blocks_of r ≡ blocks_of other
