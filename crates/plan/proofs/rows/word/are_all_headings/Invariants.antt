use Rattle.std.proofs.Common.{◌≡◌, drop}
use Rattle.std.specs.List.{list_all}
use Rattle.csv.specs.Records.{fields_of}
use Rattle.plan.specs.PlanRow.{is_heading}
use Rattle.plan.proofs.rows.word.are_all_headings.Given as goal

abbrev pub invariant-loop-place : goal.invariant-loop-place
invariant-loop-place l =
    list_all is_heading (fields_of l.fields) ≡ list_all is_heading (drop l.place (fields_of l.fields))
