use Rattle.std.proofs.Common.{◌∙◌, sym, ap, ◌||◌, ltb, inl, not}
use Rattle.std.proofs.lemmas.Bool.{eq-eqb, ne_eqb}
use Rattle.scheduler.specs.Message.{broadcast_at}
use Rattle.scheduler.specs.Follows.{message_of}
use Rattle.scheduler.proofs.Message.{has_broadcast-from}
use Rattle.scheduler.proofs.Windows.{begins_if, none_if, requested_at}
use Rattle.scheduler.proofs.scheduled.Scheduled.begins_by.Goals as goal
use Rattle.scheduler.proofs.scheduled.Scheduled.begins_by.Goals.{then-broadcasts-eq0, else-broadcasts-eq0}

pub returns-then-is_none : goal.returns-then-is_none
returns-then-is_none c =
    let t = c.args.self in
    let m = message_of t in
    begins_if t c.args.slot c.if-broadcasts-eq0.is_requested c.requires.fit c.requires.started
    (none_if t.stop (c.is_none.ensures ∙ ap not c.if-is_none.true))
    (elim c.if-broadcasts-eq0.branch [
      | then-broadcasts-eq0 w ↦ w.is_requested-is ∙ (eq-eqb t.item.broadcasts 0 w.if-broadcasts-eq0.true
          ∙ sym (has_broadcast-from m (broadcast_at m c.args.slot) (inl w.if-broadcasts-eq0.true)))
      | else-broadcasts-eq0 w ↦ w.is_requested-is
          ∙ rw (w.from.ensures, w.from-else-broadcasts-eq0.ensures, w.from-else-broadcasts-eq0-2.ensures)
          (requested_at m c.args.slot c.requires.fit.some_period c.requires.started
          ∙ ap (λ b. b || ltb (broadcast_at m c.args.slot) m.broadcasts)
          (sym (ne_eqb t.item.broadcasts 0 w.if-broadcasts-eq0.false)))
    ])
