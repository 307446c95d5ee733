use Rattle.std.proofs.Common.{◌≡◌, drop, map}
use Rattle.order_verdict.specs.Kept.{air_kept, ordered_kept}
use Rattle.order_verdict.specs.Verdict.{is_known}
use Rattle.order_verdict.proofs.unordered.is_known.Given as goal

abbrev pub invariant-loop-ordered : goal.invariant-loop-ordered
invariant-loop-ordered l =
    is_known (map ordered_kept (drop l.ordered-index l.messages)) (air_kept l.page).octets
    ≡ is_known (map ordered_kept l.messages) (air_kept l.page).octets
