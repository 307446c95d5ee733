use Rattle.std.proofs.Common.{◌≡◌, ◌++◌, drop, map}
use Rattle.order_verdict.specs.Air.{pages_from}
use Rattle.order_verdict.specs.Kept.{air_kept}
use Rattle.order_verdict.proofs.air.pages_on_air.Given as goal

abbrev pub invariant-loop-slot : goal.invariant-loop-slot
invariant-loop-slot l = map air_kept l.air.items ++ pages_from l.slot (drop l.slot l.slots) ≡ pages_from 0 l.slots
