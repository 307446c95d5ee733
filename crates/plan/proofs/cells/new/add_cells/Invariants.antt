use Rattle.std.proofs.Common.{◌≡◌, drop}
use Rattle.plan.specs.PlanRow.{with_cells}
use Rattle.plan.proofs.cells.new.add_cells.Given as goal

abbrev pub invariant-loop-cell : goal.invariant-loop-cell
invariant-loop-cell l =
    with_cells l.declared l.row l.fn.new.items l.cells
    ≡ with_cells l.declared l.row l.new.items (drop l.cell-index l.cells)
