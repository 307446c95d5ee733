use Rattle.std.proofs.Common.{◌≡◌, ◌↔◌, drop}
use Rattle.bsc_table.specs.Book.{air_pairs}
use Rattle.cbch_blocks.specs.RecordBlocks.{blocks_of_uses, octets_of_blocks, tape_of_record}
use Rattle.cbch_blocks.proofs.tape.Tape.is_of.Given as goal

abbrev pub invariant-loop-used : goal.invariant-loop-used
invariant-loop-used l = (l.self ≡ tape_of_record l.run)
    ↔ (l.left ≡ octets_of_blocks (blocks_of_uses l.run.log (air_pairs (drop l.used-index l.used-items))))
