use Rattle.std.proofs.Common.{◌≡◌, ◌++◌, take}
use Rattle.std.specs.List.{flat_map}
use Rattle.cbsp_link.specs.Written.{failed_octets}
use Rattle.cbsp_link.proofs.writing.put_failures.Given as goal

abbrev pub invariant-loop-failure : goal.invariant-loop-failure
invariant-loop-failure l = l.out.items ≡ l.fn.out.items ++ flat_map failed_octets (take l.failure-index l.failures)
