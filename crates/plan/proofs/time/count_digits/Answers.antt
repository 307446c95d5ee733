use Rattle.std.proofs.Common.{◌∙◌, sym}
use Rattle.plan.specs.PlanTime.{is_no_digit}
use Rattle.plan.proofs.Places.{place_none}
use Rattle.plan.proofs.time.count_digits.Goals as goal

pub returns-in-None-clause-value : goal.returns-in-None-clause-value
returns-in-None-clause-value c =
    place_none is_no_digit c.args.text.now (sym c.in-None.is ∙ c.first_after_digits.ensures)
