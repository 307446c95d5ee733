use Rattle.std.proofs.Common.{ℕ, ◌<◌, ◌≤◌}
use Rattle.parallel_compile.specs.StreamSteps.{IsCompleteAt}
use Rattle.parallel_compile.proofs.board.first_incomplete.Given as goal

abbrev pub invariant-loop-place : goal.invariant-loop-place
invariant-loop-place l = ((k : ℕ) → k < l.place → IsCompleteAt l.fillings k) × (l.place ≤ l.place-end)
