use Rattle.std.proofs.Common.{◌≡◌, ◌++◌, map, take}
use Rattle.plan.specs.PlanRow.{cell_row}
use Rattle.plan.proofs.cells.new.push_new_rows.Given as goal

abbrev pub invariant-loop-cell : goal.invariant-loop-cell
invariant-loop-cell l =
    l.rows.items ≡ l.fn.rows.items ++ map cell_row (take l.cell-index l.new)
