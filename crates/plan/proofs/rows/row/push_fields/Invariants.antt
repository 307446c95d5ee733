use Rattle.std.proofs.Common.{◌≡◌, ◌++◌, drop}
use Rattle.csv.specs.Records.{fields_of}
use Rattle.plan.specs.PlanRow.{fields_from}
use Rattle.plan.proofs.rows.row.push_fields.Given as goal

abbrev pub invariant-loop-place : goal.invariant-loop-place
invariant-loop-place l =
    l.list.items ++ fields_from l.areas l.verb l.place (drop l.place (fields_of l.cut))
    ≡ l.fn.list.items ++ fields_from l.areas l.verb 1 (drop 1 (fields_of l.cut))
