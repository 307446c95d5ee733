use Rattle.std.proofs.Common.{◌≡◌, map}
use Rattle.parallel_compile.specs.declared.filling.Filling.{Filling}
use Rattle.parallel_compile.proofs.board.tapes_of.Given as goal

abbrev pub invariant-loop-filling : goal.invariant-loop-filling
invariant-loop-filling l = l.tapes.items ≡ map (λ (f : Filling). f.tape) l.yielded
