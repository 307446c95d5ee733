use Rattle.std.proofs.Common.{◌≡◌, length}
use Rattle.cbsp_wire.specs.Range.{are_distinct}
use Rattle.cbsp_wire.proofs.lists.are_pairwise_distinct.Given as goal

abbrev pub invariant-loop-cell : goal.invariant-loop-cell
invariant-loop-cell g l = are_distinct (g.C.Cursor.cells l.left) ≡ are_distinct (g.C.Cursor.cells l.fn.list)

abbrev pub decreases-loop-cell : goal.decreases-loop-cell
decreases-loop-cell g l = length (g.C.Cursor.cells l.left)
