use Rattle.std.proofs.Common.{◌≡◌}
use Rattle.alert_book.specs.Session.{next_requests, orders_from}
use Rattle.alert_book.specs.SessionSteps.{live_by}
use Rattle.alert_book.proofs.session.next_requests.Given as goal

abbrev pub invariant-loop-place : goal.invariant-loop-place
invariant-loop-place l =
    next_requests (live_by l.live) (orders_from l.book l.part l.parts l.from)
    ≡ next_requests (live_by l.live) (orders_from l.book l.part l.parts l.place)
