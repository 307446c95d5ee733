use Rattle.std.proofs.Common.{◌≡◌, ◌≤◌, false, replicate}
use Rattle.parallel_compile.proofs.filling.none_came.Given as goal

abbrev pub invariant-loop : goal.invariant-loop
invariant-loop l = (l.came.items ≡ replicate l.counter false) × (l.counter ≤ l.pieces)
