use Rattle.std.proofs.Common.{◌≡◌, ℕ, ◌≤◌, length}
use Rattle.scheduler.specs.QueueSteps.{IsNode, kept_in}
use Rattle.scheduler.proofs.tournament.build.Given as goal

abbrev pub decreases-loop-left : goal.decreases-loop-left
decreases-loop-left l = l.left

abbrev pub invariant-loop-left : goal.invariant-loop-left
invariant-loop-left l =
    (l.left ≤ length l.nodes) × ((kept_in l.nodes ≡ kept_in l.initial.nodes) × ((k : ℕ) → l.left ≤ k
    → IsNode l.nodes k))
