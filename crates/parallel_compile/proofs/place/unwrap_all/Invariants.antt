use Rattle.std.proofs.Common.{◌≡◌, Some, map}
use Rattle.parallel_compile.proofs.place.unwrap_all.Given as goal

abbrev pub invariant-loop-place : goal.invariant-loop-place
invariant-loop-place l = l.yielded ≡ map Some l.tapes.items
