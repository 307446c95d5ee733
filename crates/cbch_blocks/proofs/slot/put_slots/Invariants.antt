use Rattle.std.proofs.Common.{◌≡◌, ◌≤◌, ◌++◌, drop, vec_capacity}
use Rattle.bsc_table.specs.Book.{air_pairs}
use Rattle.cbch_blocks.specs.RecordBlocks.{blocks_of_uses, octets_of_blocks}
use Rattle.cbch_blocks.specs.TapeSteps.{HasRoom}
use Rattle.cbch_blocks.proofs.slot.put_slots.Given as goal

abbrev pub invariant-loop-used : goal.invariant-loop-used
invariant-loop-used l = record {
  octets : l.octets.items ++ octets_of_blocks (blocks_of_uses l.log (air_pairs (drop l.used-index l.air)))
      ≡ l.fn.octets.items ++ octets_of_blocks (blocks_of_uses l.log (air_pairs l.air));
  room : HasRoom l.fn.octets (octets_of_blocks (blocks_of_uses l.log (air_pairs l.air)))
      → HasRoom l.octets (octets_of_blocks (blocks_of_uses l.log (air_pairs (drop l.used-index l.air))));
  capacity : vec_capacity l.fn.octets ≤ vec_capacity l.octets;
}
