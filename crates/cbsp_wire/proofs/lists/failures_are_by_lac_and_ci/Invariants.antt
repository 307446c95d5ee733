use Rattle.std.proofs.Common.{◌≡◌, length}
use Rattle.cbsp_wire.specs.Range.{failures_are_by_lac_and_ci}
use Rattle.cbsp_wire.proofs.lists.failures_are_by_lac_and_ci.Given as goal

abbrev pub invariant-failures : goal.invariant-failures
invariant-failures l = failures_are_by_lac_and_ci l.left ≡ failures_are_by_lac_and_ci l.failures

abbrev pub decreases-failures : goal.decreases-failures
decreases-failures l = length l.left
