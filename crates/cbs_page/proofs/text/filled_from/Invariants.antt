use Rattle.std.proofs.Common.{◌≡◌, ℕ, ◌<◌, ◌≤◌, length, slice_index_or}
use Rattle.cbs_page.proofs.text.filled_from.Given as goal

-- what stands from the end on fills the page
abbrev pub invariant-loop-front : goal.invariant-loop-front
invariant-loop-front l =
    (l.end ≤ length l.septets) × ((place : ℕ) → l.end ≤ place → place < length l.septets
    → slice_index_or l.septets place 13 ≡ 13)

abbrev pub decreases-loop-front : goal.decreases-loop-front
decreases-loop-front l = l.end
