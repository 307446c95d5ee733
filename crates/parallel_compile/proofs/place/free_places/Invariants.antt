use Rattle.std.proofs.Common.{◌≡◌, None, ◌≤◌, replicate}
use Rattle.parallel_compile.proofs.place.free_places.Given as goal

abbrev pub invariant-loop : goal.invariant-loop
invariant-loop l = (l.places.items ≡ replicate l.counter None) × (l.counter ≤ l.n)
