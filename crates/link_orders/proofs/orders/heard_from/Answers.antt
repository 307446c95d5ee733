use Rattle.std.proofs.Common.{◌≡◌, ◌∙◌, List, map, rules, subst, sym}
use Rattle.std.proofs.lemmas.List.{map-id}
use Rattle.std.proofs.lemmas.Iterator.Adapters.{YieldsList-from_vec}
use Rattle.std.proofs.lemmas.Iterator.Consumers.{YieldsList-end}
use Rattle.link_orders.specs.Orders.{call_heard}
use Rattle.link_orders.specs.declared.calls.Call.{Call}
use Rattle.link_orders.proofs.orders.heard_from.Goals as goal

pub returns : goal.returns
returns c =
    let list = YieldsList-from_vec c.args.calls.items
    (search (rules, c.into_iter-call-iterator.ensures.into_iter_gives))
    (search (rules, c.into_iter-call-iterator.ensures.into_iter_gives)) in
    let ended = YieldsList-end list c.loop-call.yielded _ c.loop-call.yielded_by _ c.next.new.self c.in-None.is
    c.next.ensures.steps in
    let all : c.loop-call.yielded ≡ c.args.calls.items = sym (map-id c.loop-call.yielded) ∙ ended.0 in
    subst (λ (it : List Call). c.loop-call.heard.items ≡ map (call_heard c.args.begin) it) all c.loop-call.invariant
