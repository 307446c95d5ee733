use Rattle.std.proofs.Common.{◌≡◌, ◌++◌, drop}
use Rattle.gsmtap.specs.Capture.{packets_of_slots}
use Rattle.gsmtap.proofs.capture.push_slots.Given as goal

abbrev pub invariant-loop-slot : goal.invariant-loop-slot
invariant-loop-slot l =
    l.output.items ++ packets_of_slots l.settings l.tape l.cell l.slot (drop l.slot l.slots)
    ≡ l.fn.output.items ++ packets_of_slots l.settings l.tape l.cell 0 l.slots
