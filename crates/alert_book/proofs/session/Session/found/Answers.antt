use Rattle.std.proofs.Common.{rules, ◌≡◌, ◌∙◌, length, subst}
use Rattle.alert_book.specs.Session.{due_requests, orders_from}
use Rattle.alert_book.specs.SessionSteps.{live_with}
use Rattle.alert_book.specs.Stands.{left_in, SessionState}
use Rattle.alert_book.proofs.SessionLaws.{due_none}
use Rattle.alert_book.proofs.session.Session.found.Goals as goal

pub returns : goal.returns
returns c =
    let s = c.self.inside in
    let live = live_with s.versions s.sent c.args.outcome.now in
    let left = orders_from s.book.now s.part s.parts s.place in
    let none : length s.due.items ≡ 0 = search (rules, c.is_empty.ensures, c.if-not-is_empty.false) in
    subst (λ (state : SessionState). due_requests (live_with state.versions state.sent c.args.outcome.now) state.due
    (left_in state)
    ≡ (c.in_ok-found.found.requests.items, orders_from state.book state.part state.parts c.in_ok-found.found.place))
    c.self.view_is
    (due_none live s.due.items left none ∙ c.in_ok-found.ensures)
