use Rattle.std.proofs.Common.{ℕ, ◌-◌, ◌<◌, ◌≤◌, length, get_or}
use Rattle.scheduler.specs.declared.tournament.Node.{Node}
use Rattle.scheduler.proofs.tournament.place_by_search.Given as goal

abbrev pub decreases-loop-low : goal.decreases-loop-low
decreases-loop-low l = l.high - l.low

abbrev pub invariant-loop-low : goal.invariant-loop-low
invariant-loop-low l =
    (l.low ≤ l.high) × ((l.high ≤ length l.nodes) × (((k : ℕ) (d : Node) → k < l.low
    → (get_or l.nodes k d).kept.scheduled.item.entry < l.entry) × ((k : ℕ) (d : Node) → l.high ≤ k
    → k < length l.nodes → l.entry ≤ (get_or l.nodes k d).kept.scheduled.item.entry)))
