use Rattle.std.proofs.Common.{◌≡◌, map}
use Rattle.link_orders.specs.Orders.{call_heard}
use Rattle.link_orders.proofs.orders.heard_from.Given as goal

abbrev pub invariant-loop-call : goal.invariant-loop-call
invariant-loop-call l = l.heard.items ≡ map (call_heard l.begin) l.yielded
