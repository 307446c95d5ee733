use Rattle.std.proofs.Common.{◌≡◌, [], drop}
use Rattle.plan.specs.PlanRow.{with_rows}
use Rattle.plan.proofs.cells.new.new_cells.Given as goal

abbrev pub invariant-loop-planned : goal.invariant-loop-planned
invariant-loop-planned l =
    with_rows l.declared.items [] l.rows ≡ with_rows l.declared.items l.new.items (drop l.planned-index l.rows)
