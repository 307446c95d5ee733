use Rattle.std.proofs.Common.{rules, Option, sym, subst}
use Rattle.alert_book.specs.declared.session.NextRequests.{NextRequests}
use Rattle.alert_book.specs.AdvancingSteps.{due_with, first_in}
use Rattle.alert_book.specs.Stands.{HavePlaces, SessionState}
use Rattle.alert_book.proofs.StandsLaws.{places_stay, popped}
use Rattle.alert_book.proofs.session.Session.advance.Goals as goal
use Rattle.alert_book.proofs.session.Session.advance.Goals.{in-Some, in_default}

pub invariant_of-self : goal.invariant_of-self
invariant_of-self c =
    let s = c.self.inside in
    let old : SessionState = record {
      versions = s.versions;
      sent = s.sent;
      row = s.row;
      due = s.due.items;
      book = s.book.now;
      part = s.part;
      parts = s.parts;
      place = s.place;
    } in
    let asked : HavePlaces old.versions (first_in (due_with old c.args.found).0) =
    subst (λ (x : SessionState). HavePlaces x.versions (first_in (due_with x c.args.found).0)) (sym c.self.view_is)
    c.requires in
    elim c.match-found.branch [
      | in-Some w ↦ rw w.self-inside-is (
        c.self.invariant.0,
        places_stay s.versions _ c.pop_front.result c.keep.ensures.places
            (popped s.versions w.in-Some.found.requests.items c.pop_front.new.self.items c.pop_front.result
            (search (rules, w.self-inside-is, c.pop_front.ensures.items))
            (subst (λ (f : Option NextRequests). HavePlaces s.versions
            (first_in (due_with old f).0)) w.in-Some.is asked)),
      )
      | in_default w ↦ rw w.self-inside-is (
        c.self.invariant.0,
        places_stay s.versions _ c.pop_front.result c.keep.ensures.places
            (popped s.versions s.due.items c.pop_front.new.self.items c.pop_front.result
            (search (rules, w.self-inside-is, c.pop_front.ensures.items))
            (subst (λ (f : Option NextRequests). HavePlaces s.versions
            (first_in (due_with old f).0)) w.in_default.is asked)),
      )
    ]
