use Rattle.std.proofs.Common.{◌≡◌, ◌+◌, length}
use Rattle.cbsp_wire.proofs.lists.are_few.Given as goal

abbrev pub invariant-loop : goal.invariant-loop
invariant-loop g l = length (g.C.Cursor.cells l.left) + l.counter ≡ length (g.C.Cursor.cells l.fn.list)
