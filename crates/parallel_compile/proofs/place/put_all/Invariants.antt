use Rattle.std.proofs.Common.{length}
use Rattle.parallel_compile.specs.Places.{ArePut}
use Rattle.parallel_compile.proofs.place.put_all.Given as goal

abbrev pub invariant-loop-piece : goal.invariant-loop-piece
invariant-loop-piece l = ArePut (length l.initial.places.items) l.yielded l.places.items l.spoilt
