use Rattle.std.proofs.Common.{◌≡◌, ◌++◌, [], drop, length}
use Rattle.asked_orders.specs.Asked.{places_from}
use Rattle.asked_orders.proofs.asked.places_of.Given as goal

abbrev pub invariant-loop-place : goal.invariant-loop-place
invariant-loop-place l =
    l.places.items
    ++ places_from l.cell l.log l.place (length l.places.items) l.accepted.items (drop l.place l.orders)
    ≡ places_from l.cell l.log 0 0 [] l.orders
