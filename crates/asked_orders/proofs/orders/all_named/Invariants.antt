use Rattle.std.proofs.Common.{◌≡◌, map, take}
use Rattle.asked_orders.specs.Asked.{named}
use Rattle.asked_orders.proofs.orders.all_named.Given as goal

abbrev pub invariant-loop-order : goal.invariant-loop-order
invariant-loop-order l = l.all.items ≡ map named (take l.order-index l.orders)
