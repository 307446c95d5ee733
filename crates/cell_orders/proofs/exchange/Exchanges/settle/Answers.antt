use Rattle.std.proofs.Common.{◌<◌, ◌∙◌, Some, ap, length, refl, sym, rules}
use Rattle.std.specs.Prelude.{position}
use Rattle.cell_orders.specs.declared.exchange.HeldExchange.{HeldExchange}
use Rattle.cell_orders.specs.declared.exchange.Waiting.{Waiting}
use Rattle.cell_orders.specs.Exchange.{answers, moved}
use Rattle.cell_orders.specs.Steps.{places_of, standing, wait_of}
use Rattle.cell_orders.proofs.Search.{Taken, none_of_them, taken_of}
use Rattle.cell_orders.proofs.Settled.{now_standing, place_held, still_consistent}
use Rattle.cell_orders.proofs.exchange.Exchanges.settle.Goals as goal

pub index_mut-requires : goal.index_mut-requires
index_mut-requires c =
    let t = taken_of c.args.cell c.args.heard.now c.args.self.now.waiting.items
    (places_of c.args.self.now.places.items) c.in-Some.number c.remove-place.result c.requires
    (ap (position (λ (w : Waiting). answers c.args.cell c.args.heard.now w.order.now)) (sym c.deref.ensures.value)
    ∙ sym c.first_answered.ensures ∙ c.in-Some.is) c.remove-place.ensures.value in
    let less : c.remove-place.result.place < length c.args.self.now.places.items =
    place_held c.args.cell c.args.heard.now c.args.self.now.places.items c.in-Some.number c.remove-place.result t in
    search (rules, less)

taken : (c : goal.In_ok-push-in-Some) → Taken c.args.cell c.args.heard.now 0 (places_of c.args.self.now.places.items)
    c.in-Some.number (wait_of c.remove-place.result)
taken c =
    taken_of c.args.cell c.args.heard.now c.args.self.now.waiting.items
    (places_of c.args.self.now.places.items) c.in-Some.number c.remove-place.result c.requires
    (ap (position (λ (w : Waiting). answers c.args.cell c.args.heard.now w.order.now)) (sym c.deref.ensures.value)
    ∙ sym c.first_answered.ensures ∙ c.in-Some.is) c.remove-place.ensures.value

held : (c : goal.In_ok-push-in-Some) → HeldExchange
held c = record { order = c.remove-place.result.order; answer = Some c.args.heard }

pub returns-in_ok-push-in-Some-clause-consistent : goal.returns-in_ok-push-in-Some-clause-consistent
unfolding held
returns-in_ok-push-in-Some-clause-consistent c =
    still_consistent c.args.cell c.args.heard.now c.args.self.now.places.items c.push.new.self.items (held c)
    c.args.self.now.waiting.items c.remove-place.new.self.items c.in-Some.number c.remove-place.result (taken c)
    c.in_ok-push-in-Some.ensures.items refl c.remove-place.ensures.items c.requires

pub returns-in_ok-push-in-Some-clause-moved : goal.returns-in_ok-push-in-Some-clause-moved
unfolding held
returns-in_ok-push-in-Some-clause-moved c =
    now_standing c.args.cell c.args.heard.now c.args.self.now.places.items c.push.new.self.items (held c)
    c.in-Some.number c.remove-place.result (taken c) c.in_ok-push-in-Some.ensures.items refl

pub returns-in-None-clause-moved : goal.returns-in-None-clause-moved
returns-in-None-clause-moved c =
    ap (moved c.args.cell c.args.heard.now (standing (places_of c.args.self.now.places.items)))
    (sym (none_of_them c.args.cell c.args.heard.now c.args.self.now.waiting.items
    (places_of c.args.self.now.places.items) c.requires
    (ap (position (λ (w : Waiting). answers c.args.cell c.args.heard.now w.order.now)) (sym c.deref.ensures.value)
    ∙ sym c.first_answered.ensures ∙ c.in-None.is)))
