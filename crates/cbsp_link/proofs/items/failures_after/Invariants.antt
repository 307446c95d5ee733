use Rattle.std.proofs.Common.{◌≡◌, length}
use Rattle.cbsp_link.specs.Item.{failure_item}
use Rattle.cbsp_link.specs.Run.{run_of}
use Rattle.cbsp_link.proofs.Runs.{after_these}
use Rattle.cbsp_link.proofs.items.failures_after.Given as goal

abbrev pub invariant-items : goal.invariant-items
invariant-items l = after_these l.failures.items (run_of (failure_item) l.left) ≡ run_of (failure_item) l.octets

abbrev pub decreases-items : goal.decreases-items
decreases-items l = length l.left
