use Rattle.std.proofs.Common.{◌≡◌, ◌∙◌, IfOk, List, map, ap, subst}
use Rattle.cbsp_wire.specs.declared.message.Cell.{Cell}
use Rattle.alert_book.specs.declared.session.request.Target.{Target}
use Rattle.alert_book.specs.Session.{stop_request, targets_of, update_request}
use Rattle.alert_book.specs.SessionSteps.{live_by}
use Rattle.alert_book.proofs.session.request.requests_of.Goals as goal

pub returns-in_ok-targets-in-Update-Some : goal.returns-in_ok-targets-in-Update-Some
returns-in_ok-targets-in-Update-Some c =
    let order = c.args.order.now in
    let meant = c.in_ok-targets-in-Update-Some.ensures.same
    ∙ ap (λ (cells : List Cell). targets_of (live_by c.args.live.now) order.number cells) c.list_of.ensures in
    rw (c.in-Update-Some.is-0, c.in-Update-Some.is-1)
    (subst (λ (targets : List Target). IfOk c.update_requests.result (λ requests. requests.items
    ≡ map (update_request order c.in-Update-Some.sending c.in-Update-Some.paged c.in-Update-Some.update) targets))
    meant c.update_requests.ensures)

pub returns-in_ok-targets-in-Stop-default : goal.returns-in_ok-targets-in-Stop-default
returns-in_ok-targets-in-Stop-default c =
    let order = c.args.order.now in
    let meant = c.in_ok-targets-in-Stop-default.ensures.same
    ∙ ap (λ (cells : List Cell). targets_of (live_by c.args.live.now) order.number cells)
    c.list_of-in-Stop-default.ensures in
    rw c.in-Stop-default.is-0
    (subst (λ (targets : List Target). IfOk c.stop_requests.result (λ requests. requests.items
    ≡ map (stop_request order) targets)) meant c.stop_requests.ensures)
