use Rattle.std.proofs.Common.{◌≡◌, ◌++◌, take}
use Rattle.std.specs.List.{flat_map}
use Rattle.plan.specs.PlanCells.{ranged}
use Rattle.plan.proofs.cells.range.push_all_ranged.Given as goal

abbrev pub invariant-loop-part : goal.invariant-loop-part
invariant-loop-part l = l.cells.items ≡ l.fn.cells.items ++ flat_map ranged (take l.part-index l.parts)
