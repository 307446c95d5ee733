use Rattle.std.proofs.Common.{◌≡◌}
use Rattle.std.specs.List.{flat_map}
use Rattle.warnc_run.specs.ApartSteps.{AreSome, records_in}
use Rattle.warnc_run.proofs.apart.joined.Given as goal

abbrev pub invariant-loop-part : goal.invariant-loop-part
invariant-loop-part l = (l.all.items ≡ flat_map records_in l.yielded) × AreSome l.yielded
