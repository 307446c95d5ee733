use Rattle.std.proofs.Common.{◌≡◌, ◌++◌, drop}
use Rattle.gsmtap.specs.Capture.{packets_of_blocks}
use Rattle.gsmtap.proofs.capture.push_slot.Given as goal

abbrev pub invariant-loop-block : goal.invariant-loop-block
invariant-loop-block l =
    l.output.items
    ++ packets_of_blocks l.settings.start l.settings.channel l.tape l.cell l.slot l.block (drop l.block l.blocks)
    ≡ l.fn.output.items ++ packets_of_blocks l.settings.start l.settings.channel l.tape l.cell l.slot 0 l.blocks
