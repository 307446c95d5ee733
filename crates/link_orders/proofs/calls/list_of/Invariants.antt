use Rattle.std.proofs.Common.{◌≡◌, take}
use Rattle.std.specs.List.{flat_map}
use Rattle.link_orders.specs.Calls.{calls_at}
use Rattle.link_orders.proofs.calls.list_of.Given as goal

abbrev pub invariant-loop-one : goal.invariant-loop-one
invariant-loop-one l = l.calls.items ≡ flat_map (calls_at l.controller l.messages) (take l.one-index l.messages)
