use Rattle.std.proofs.Common.{◌≡◌, ℕ, ◌+◌, ◌*◌, ◌<◌, ◌≤◌, get_or}
use Rattle.scheduler.specs.QueueSteps.{AreListed}
use Rattle.scheduler.proofs.tournament.list_eight.Given as goal

abbrev pub invariant-loop-below : goal.invariant-loop-below
invariant-loop-below l =
    (l.fn.count ≤ l.found) × (((i : ℕ) → i < l.fn.count → get_or l.listed i 0 ≡ get_or l.initial.listed i 0)
    × AreListed l.slot l.nodes l.listed l.found (l.place * 8 + 1 + l.below))
