use Rattle.std.proofs.Common.{◌≡◌, ◌++◌}
use Rattle.plan.specs.PlanCells.{cells_from}
use Rattle.plan.proofs.cells.range.push_range.Given as goal

abbrev pub invariant-loop-place : goal.invariant-loop-place
invariant-loop-place l = l.cells.items ≡ l.fn.cells.items ++ cells_from l.range.lac l.range.first l.place
