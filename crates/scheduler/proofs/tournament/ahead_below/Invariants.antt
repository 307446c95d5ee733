use Rattle.std.proofs.Common.{◌≡◌, ◌+◌, ◌*◌}
use Rattle.scheduler.specs.QueueSteps.{ahead_among}
use Rattle.scheduler.proofs.tournament.ahead_below.Given as goal

abbrev pub invariant-loop-below : goal.invariant-loop-below
invariant-loop-below l = l.ahead ≡ ahead_among l.nodes (l.place * 8 + 1) l.below
