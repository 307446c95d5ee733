use Rattle.std.proofs.Common.{take}
use Rattle.std.specs.List.{flat_map}
use Rattle.plan.specs.PlanOutput.{row_line}
use Rattle.plan.specs.PlanSteps.{IsText}
use Rattle.plan.proofs.book.rows_text.Given as goal

abbrev pub invariant-loop-planned : goal.invariant-loop-planned
invariant-loop-planned l =
    IsText l.text (flat_map row_line (take l.planned-index l.rows))
