use Rattle.std.proofs.Common.{◌≡◌, length, take}
use Rattle.order_desk.specs.SettleSteps.{AreTimes, has_slot}
use Rattle.order_desk.proofs.settle.slots.count_ranges.Given as goal

abbrev pub invariant-loop-range : goal.invariant-loop-range
invariant-loop-range l = (length l.times ≡ length l.fn.times)
    × AreTimes has_slot (take l.range-index l.fn.ranges) l.times
