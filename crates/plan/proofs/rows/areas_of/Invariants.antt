use Rattle.std.proofs.Common.{◌≡◌, take}
use Rattle.std.specs.List.{flat_map}
use Rattle.plan.specs.PlanRow.{area_in}
use Rattle.plan.proofs.rows.areas_of.Given as goal

abbrev pub invariant-loop-fields : goal.invariant-loop-fields
invariant-loop-fields l =
    l.areas.items ≡ flat_map area_in (take l.fields-index l.records)
