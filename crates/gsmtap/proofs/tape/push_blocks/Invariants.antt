use Rattle.std.proofs.Common.{◌≡◌, ◌++◌, drop}
use Rattle.handset.specs.Tape.{octets_of_blocks}
use Rattle.gsmtap.specs.TapeOfCapture.{blocks_in}
use Rattle.gsmtap.proofs.tape.push_blocks.Given as goal

abbrev pub invariant-loop-block : goal.invariant-loop-block
invariant-loop-block l =
    l.output.items ++ octets_of_blocks (blocks_in (drop l.block-index l.blocks))
    ≡ l.fn.output.items ++ octets_of_blocks (blocks_in l.blocks)
