use Rattle.std.proofs.Common.{◌≡◌, map, take}
use Rattle.asked_orders.specs.Asked.{asked_in}
use Rattle.asked_orders.proofs.orders.all_asked.Given as goal

abbrev pub invariant-loop-run : goal.invariant-loop-run
invariant-loop-run l = l.all.items ≡ map (asked_in l.orders) (take l.run-index l.records)
