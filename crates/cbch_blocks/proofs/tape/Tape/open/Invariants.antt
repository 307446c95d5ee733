use Rattle.std.proofs.Common.{◌≡◌, ◌≤◌, ◌++◌, None, [], replicate}
use Rattle.cbch_blocks.specs.RecordBlocks.{blocks_of_uses, octets_of_blocks, tape_header}
use Rattle.cbch_blocks.proofs.tape.Tape.open.Given as goal

abbrev pub invariant-loop : goal.invariant-loop
invariant-loop l = (l.counter ≤ l.slots)
    × (l.octets.items
    ≡ tape_header l.fn.cell l.slots ++ octets_of_blocks (blocks_of_uses [] (replicate l.counter None)))
