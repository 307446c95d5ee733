use Rattle.std.proofs.Common.{◌≡◌, ◌++◌, ◌∷◌, [], Some}
use Rattle.cell_orders.specs.declared.exchange.HeldExchange.{HeldExchange}
use Rattle.cell_orders.specs.Steps.{exchange_of, places_of, waits_kept}
use Rattle.cell_orders.proofs.Places.{answered_more, places_more, standing_more}
use Rattle.cell_orders.proofs.exchange.Exchanges.begin_answered.Goals as goal

held : (c : goal.In_ok-push) → HeldExchange
held c = record { order = c.args.heard; answer = Some c.args.heard }

more : (c : goal.In_ok-push)
    → places_of c.push.new.self.items ≡ places_of c.args.self.now.places.items ++ Some (exchange_of (held c)) ∷ []
unfolding held
more c = places_more c.args.self.now.places.items c.push.new.self.items (held c) c.in_ok-push.ensures.items

pub returns-clause-consistent : goal.returns-clause-consistent
unfolding held
returns-clause-consistent c =
    answered_more (waits_kept c.args.self.now.waiting.items) (places_of c.args.self.now.places.items)
    (places_of c.push.new.self.items) c.args.heard.now c.args.heard.now (more c) c.requires

pub returns-clause-added : goal.returns-clause-added
unfolding held
returns-clause-added c =
    standing_more (places_of c.args.self.now.places.items) (places_of c.push.new.self.items) (exchange_of (held c))
    (more c)
