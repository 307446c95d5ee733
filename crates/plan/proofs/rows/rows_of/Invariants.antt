use Rattle.std.proofs.Common.{◌≡◌, ◌+◌, ◌++◌, drop, true}
use Rattle.plan.specs.PlanRow.{rows_from}
use Rattle.plan.proofs.rows.rows_of.Given as goal

abbrev pub invariant-loop-place : goal.invariant-loop-place
invariant-loop-place l =
    l.rows.items ++ rows_from l.areas (l.place + 1) l.first (drop l.place l.records)
    ≡ rows_from l.areas 1 true l.records
