use Rattle.std.proofs.Common.{◌≡◌, ◌++◌, ◌∷◌, ◌∙◌, [], None, Some, ap, length, sym, rules}
use Rattle.std.proofs.lemmas.List.{length-map, map-append}
use Rattle.std.specs.Prelude.{option_map}
use Rattle.cell_orders.specs.declared.exchange.HeldExchange.{HeldExchange}
use Rattle.cell_orders.specs.declared.exchange.Waiting.{Waiting}
use Rattle.cell_orders.specs.Steps.{exchange_of, places_of, wait_of, waits_kept}
use Rattle.cell_orders.proofs.Places.{places_more, standing_more, waiting_more}
use Rattle.cell_orders.proofs.exchange.Exchanges.begin_waiting.Goals as goal

held : (c : goal.In_ok-push-2) → HeldExchange
held c = record { order = c.args.heard; answer = None }

waiting : (c : goal.In_ok-push-2) → Waiting
waiting c = record { place = c.len-place.result; order = c.args.heard }

more : (c : goal.In_ok-push-2)
    → places_of c.push-2.new.self.items ≡ places_of c.args.self.now.places.items ++ Some (exchange_of (held c)) ∷ []
unfolding held
more c = places_more c.args.self.now.places.items c.push-2.new.self.items (held c) c.in_ok-push-2.ensures.items

place : (c : goal.In_ok-push-2) → c.len-place.result ≡ length (places_of c.args.self.now.places.items)
place c =
    let long : c.len-place.result ≡ length c.args.self.now.places.items = search rules in
    long ∙ sym (length-map c.args.self.now.places.items (option_map exchange_of))

waits_more : (c : goal.In_ok-push-2) → waits_kept c.push.new.self.items
    ≡ waits_kept c.args.self.now.waiting.items
    ++ record { place = length (places_of c.args.self.now.places.items); order = c.args.heard.now } ∷ []
unfolding waiting
waits_more c =
    ap waits_kept c.in_ok-push.ensures.items
    ∙ map-append wait_of c.args.self.now.waiting.items (waiting c ∷ [])
    ∙ ap (λ n. waits_kept c.args.self.now.waiting.items ++ record { place = n; order = c.args.heard.now } ∷ [])
    (place c)

pub returns-clause-consistent : goal.returns-clause-consistent
unfolding held
returns-clause-consistent c =
    waiting_more (waits_kept c.args.self.now.waiting.items) (waits_kept c.push.new.self.items)
    (places_of c.args.self.now.places.items) (places_of c.push-2.new.self.items) c.args.heard.now (more c) c.requires
    (waits_more c)

pub returns-clause-added : goal.returns-clause-added
unfolding held
returns-clause-added c =
    standing_more (places_of c.args.self.now.places.items) (places_of c.push-2.new.self.items) (exchange_of (held c))
    (more c)
