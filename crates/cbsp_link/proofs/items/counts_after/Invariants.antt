use Rattle.std.proofs.Common.{◌≡◌, length}
use Rattle.cbsp_link.specs.Item.{count_item}
use Rattle.cbsp_link.specs.Run.{run_of}
use Rattle.cbsp_link.proofs.Runs.{after_these}
use Rattle.cbsp_link.proofs.items.counts_after.Given as goal

abbrev pub invariant-items : goal.invariant-items
invariant-items l = after_these l.counts.items (run_of (count_item l.naming) l.left) ≡ run_of (count_item l.naming)
    l.octets

abbrev pub decreases-items : goal.decreases-items
decreases-items l = length l.left
