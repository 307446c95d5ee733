use Rattle.std.proofs.Common.{ℕ, ◌-◌, ◌<◌, ◌≤◌, length, get_or}
use Rattle.scheduler.specs.declared.tournament.Node.{Node}
use Rattle.scheduler.specs.QueueSteps.{HasNoMore}
use Rattle.scheduler.proofs.settled.ended_in_front.Given as goal

abbrev pub decreases-loop-count : goal.decreases-loop-count
decreases-loop-count l = length l.nodes - l.count

abbrev pub invariant-loop-count : goal.invariant-loop-count
invariant-loop-count l =
    (l.count ≤ length l.nodes) × ((k : ℕ) (d : Node) → k < l.count → HasNoMore (get_or l.nodes k d).kept)
