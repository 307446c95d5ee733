use Rattle.std.proofs.Common.{◌≡◌, ◌++◌, drop}
use Rattle.gsmtap.specs.TapesOfCapture.{none_known}
use Rattle.gsmtap.specs.TapesSteps.{known_of_each}
use Rattle.gsmtap.proofs.tapes.airs_for.Given as goal

abbrev pub invariant-loop-one : goal.invariant-loop-one
invariant-loop-one l = known_of_each l.airs.items ++ none_known (drop l.one-index l.wanted) ≡ none_known l.wanted
