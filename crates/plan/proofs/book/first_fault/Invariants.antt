use Rattle.std.proofs.Common.{◌≡◌, take}
use Rattle.alert_book.specs.Judging.{none_counted}
use Rattle.plan.specs.PlanOutput.{counted_rows, AreRight}
use Rattle.plan.proofs.book.first_fault.Given as goal

abbrev pub invariant-loop-planned : goal.invariant-loop-planned
invariant-loop-planned l =
    (counted_rows none_counted (take l.planned-index l.rows) ≡ l.judge)
    × AreRight none_counted (take l.planned-index l.rows)
