use Rattle.std.proofs.Common.{◌≡◌, length}
use Rattle.cbsp_wire.specs.Rising.{are_rising_after}
use Rattle.cbsp_wire.proofs.lists.are_rising_after.Given as goal

abbrev pub invariant-loop-cell : goal.invariant-loop-cell
invariant-loop-cell g l =
    are_rising_after l.last (g.C.Cursor.cells l.left) ≡ are_rising_after l.fn.first (g.C.Cursor.cells l.fn.list)

abbrev pub decreases-loop-cell : goal.decreases-loop-cell
decreases-loop-cell g l = length (g.C.Cursor.cells l.left)
