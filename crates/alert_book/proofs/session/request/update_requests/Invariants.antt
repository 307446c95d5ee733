use Rattle.std.proofs.Common.{◌≡◌, map}
use Rattle.alert_book.specs.Session.{update_request}
use Rattle.alert_book.proofs.session.request.update_requests.Given as goal

abbrev pub invariant-loop-target : goal.invariant-loop-target
invariant-loop-target l = l.requests.items ≡ map (update_request l.order l.sending l.paged l.version) l.yielded
