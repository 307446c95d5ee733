use Rattle.std.proofs.Common.{◌≤◌, max}
use Rattle.order_desk.proofs.Counted.{IsCounted}
use Rattle.order_desk.proofs.settle.counts.count.Given as goal

abbrev pub invariant-loop-place : goal.invariant-loop-place
invariant-loop-place l =
    IsCounted l.fn.from l.place l.fn.times l.times × (l.place ≤ max l.fn.from l.end)
