use Rattle.std.proofs.Common.{◌≡◌, ◌++◌, drop}
use Rattle.std.specs.List.{filter_map}
use Rattle.plan.specs.PlanRow.{declared_in}
use Rattle.plan.proofs.cells.new.declared_cells.Given as goal

abbrev pub invariant-loop-planned : goal.invariant-loop-planned
invariant-loop-planned l =
    l.cells.items ++ filter_map declared_in (drop l.planned-index l.rows) ≡ filter_map declared_in l.rows
