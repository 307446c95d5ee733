use Rattle.std.proofs.Common.{◌≡◌, length}
use Rattle.cbsp_wire.specs.CellLists.{contains}
use Rattle.cbsp_wire.proofs.lists.has_cell.Given as goal

abbrev pub invariant-loop-other : goal.invariant-loop-other
invariant-loop-other g l = contains (g.C.Cursor.cells l.left) l.cell ≡ contains (g.C.Cursor.cells l.fn.list) l.cell

abbrev pub decreases-loop-other : goal.decreases-loop-other
decreases-loop-other g l = length (g.C.Cursor.cells l.left)
