use Rattle.std.proofs.Common.{◌≢◌, Some, None, ℕ, ◌<◌, ◌≤◌}
use Rattle.std.specs.List.{slice_get}
use Rattle.parallel_compile.proofs.place.first_free.Given as goal

abbrev pub invariant-loop-place : goal.invariant-loop-place
invariant-loop-place l =
    ((x : ℕ) → x < l.place → slice_get l.places x ≢ Some None) × (l.place ≤ l.place-end)
