use Rattle.std.proofs.Common.{ℕ, Bool, List, cond, ap, sym, ◌∙◌}
use Rattle.admission.specs.declared.budget.Held.{Held}
use Rattle.admission.specs.Reservation.{end_of_stopped}
use Rattle.admission.specs.Table.{ends_at, passed}
use Rattle.bsc_table.proofs.book.release.Goals as goal

pub returns : goal.returns
returns c =
    let entry : ℕ = c.args.old.now.entry in
    let reservations : List Held = c.args.budget.now in
    let slot : ℕ = c.args.slot in
    let end : ℕ = end_of_stopped c.args.old.now.start c.args.old.now.period slot in
    let front = sym c.is_background.ensures ∙ c.if-is_background.false in
    let left = c.pass_slot.ensures ∙ ap (passed slot) (c.release_at.ensures
    ∙ ap (λ (n : ℕ). ends_at entry n reservations) c.end_if_stopped.ensures.end) in
    left ∙ sym (ap (λ (b : Bool). cond b reservations (passed slot (ends_at entry end reservations))) front)
