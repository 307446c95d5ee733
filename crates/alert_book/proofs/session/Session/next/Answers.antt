use Rattle.std.proofs.Common.{◌≡◌, Option, refl, sym, subst}
use Rattle.alert_book.specs.AdvancingSteps.{due_with, HasAdvanced}
use Rattle.reply_outcome.specs.declared.outcome.Outcome.{Outcome}
use Rattle.alert_book.specs.Session.{due_requests, outcome_in}
use Rattle.alert_book.specs.SessionSteps.{live_with}
use Rattle.alert_book.specs.Stands.{left_in, Advances, SessionState}
use Rattle.alert_book.proofs.StandsLaws.{due_same, has_advanced}
use Rattle.alert_book.proofs.session.Session.next.Goals as goal

pub returns-clause-next : goal.returns-clause-next
returns-clause-next c =
    let s = c.self.inside in
    let old : SessionState = record {
      versions = s.versions;
      sent = s.sent;
      row = s.row;
      due = s.due.items;
      book = s.book.now;
      part = s.part;
      parts = s.parts;
      place = s.place;
    } in
    let reply = c.in_ok-reply.reply in
    let found = c.in_ok-found.found in
    let due : due_requests (live_with old.versions old.sent (outcome_in old.sent reply)) old.due (left_in old) ≡
    due_with old found =
    subst (λ (outcome : Option Outcome). due_requests (live_with old.versions old.sent outcome) old.due (left_in old) ≡
    due_with old found)
    c.in_ok-outcome.ensures
    (subst (λ (x : SessionState). due_requests (live_with x.versions x.sent c.in_ok-outcome.outcome) x.due (left_in x)
    ≡ due_with x found)
    (sym c.self.view_is) c.in_ok-found.ensures) in (
      reply,
      c.in_ok-reply.ensures,
      subst (λ (x : SessionState). Advances reply x c.advance.new.self) c.self.view_is
          (has_advanced old (record old { versions = c.prepare.new.versions }) c.advance.new.self reply
          (due_with old found) c.in_ok-given.ensures.keeps refl refl due
          (subst (λ (outcome : Option Outcome). HasAdvanced (record old { versions = c.prepare.new.versions })
          c.advance.new.self outcome (due_with old found)) c.in_ok-outcome.ensures
          (subst (HasAdvanced (record old { versions = c.prepare.new.versions }) c.advance.new.self
          c.in_ok-outcome.outcome)
          (due_same old c.prepare.new.versions found) c.advance.ensures))),
    )
