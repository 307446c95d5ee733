use Rattle.std.proofs.Common.{◌≡◌, ◌++◌, drop}
use Rattle.std.specs.List.{flat_map}
use Rattle.csv.specs.Records.{fields_of}
use Rattle.plan.specs.PlanCells.{parts_of}
use Rattle.plan.proofs.cells.area.area_of.Given as goal

abbrev pub invariant-loop-place : goal.invariant-loop-place
invariant-loop-place l =
    l.parts.items ++ flat_map parts_of (drop l.place (fields_of l.fields))
    ≡ flat_map parts_of (drop 2 (fields_of l.fields))
