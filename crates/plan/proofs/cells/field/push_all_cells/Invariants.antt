use Rattle.std.proofs.Common.{◌≡◌, ◌++◌, take}
use Rattle.std.specs.List.{flat_map}
use Rattle.plan.specs.PlanCells.{part_cells}
use Rattle.plan.proofs.cells.field.push_all_cells.Given as goal

abbrev pub invariant-loop-part : goal.invariant-loop-part
invariant-loop-part l = l.cells.items ≡ l.fn.cells.items ++ flat_map (part_cells l.areas) (take l.part-index l.parts)
