use Rattle.std.proofs.Common.{◌≡◌, map}
use Rattle.alert_book.specs.Session.{stop_request}
use Rattle.alert_book.proofs.session.request.stop_requests.Given as goal

abbrev pub invariant-loop-target : goal.invariant-loop-target
invariant-loop-target l = l.requests.items ≡ map (stop_request l.order) l.yielded
