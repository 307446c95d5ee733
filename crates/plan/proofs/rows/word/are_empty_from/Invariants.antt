use Rattle.std.proofs.Common.{◌≡◌, drop}
use Rattle.std.specs.List.{list_all}
use Rattle.csv.specs.Records.{fields_of}
use Rattle.plan.specs.PlanRow.{is_empty_field}
use Rattle.plan.proofs.rows.word.are_empty_from.Given as goal

abbrev pub invariant-loop-place : goal.invariant-loop-place
invariant-loop-place l =
    list_all is_empty_field (drop l.start (fields_of l.fields))
    ≡ list_all is_empty_field (drop l.place (fields_of l.fields))
