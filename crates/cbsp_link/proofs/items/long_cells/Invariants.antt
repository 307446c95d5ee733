use Rattle.std.proofs.Common.{◌≡◌, length}
use Rattle.cbsp_link.specs.Item.{cell_item}
use Rattle.cbsp_link.specs.Run.{run_of}
use Rattle.cbsp_link.proofs.Runs.{after_these}
use Rattle.cbsp_link.proofs.items.long_cells.Given as goal

abbrev pub invariant-items : goal.invariant-items
invariant-items l = after_these l.cells.items (run_of (cell_item l.naming) l.left) ≡ run_of (cell_item l.naming)
    l.octets

abbrev pub decreases-items : goal.decreases-items
decreases-items l = length l.left
