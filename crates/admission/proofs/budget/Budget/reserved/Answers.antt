use Rattle.std.proofs.Common.{sum_by, ap, ◌∙◌, arith}
use Rattle.admission.specs.Waiting.{held_now, held_at}
use Rattle.admission.proofs.Rising.{no_slot_over_now}
use Rattle.admission.proofs.budget.Budget.reserved.Goals as goal

pub returns-clause-at_every_slot : goal.returns-clause-at_every_slot
returns-clause-at_every_slot c = λ slot.
    let all = c.total.ensures ∙ ap (sum_by held_now) c.as_slice.ensures.value in
    omega (
      arith,
      all,
      ap (sum_by (held_at slot)) c.self.view_is,
      no_slot_over_now c.self.inside.table.items slot
          c.self.invariant,
    )
