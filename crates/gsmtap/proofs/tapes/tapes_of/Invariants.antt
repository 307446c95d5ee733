use Rattle.std.proofs.Common.{◌≡◌, ◌++◌, drop}
use Rattle.gsmtap.specs.TapesSteps.{AreLong, known_of_each, tapes_of_known}
use Rattle.gsmtap.proofs.tapes.tapes_of.Given as goal

abbrev pub invariant-loop-place : goal.invariant-loop-place
invariant-loop-place l = record {
  written :
      l.output.items ++ tapes_of_known (drop l.place l.wanted) (drop l.place (known_of_each l.airs))
      ≡ tapes_of_known l.wanted (known_of_each l.airs);
  long : AreLong (drop l.place l.wanted) (drop l.place (known_of_each l.airs));
}
