use Rattle.std.proofs.Common.{◌∙◌, refl}
use Rattle.plan.proofs.time.clock_seconds.Goals as goal

pub returns-clause-value : goal.returns-clause-value
returns-clause-value c =
    c.seconds_from.ensures.value
    ∙ rw (
      c.number_within.ensures.value,
      c.number_within-2.ensures.value,
      c.number_within-3.ensures.value,
      c.before_first.ensures,
      c.before_first-2.ensures,
      c.after_first.ensures,
      c.after_first-rest.ensures,
    ) refl
