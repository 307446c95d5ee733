use Rattle.std.proofs.Common.{◌≡◌, ◌++◌, [], drop, map, take}
use Rattle.order_verdict.specs.Kept.{air_kept, ordered_kept}
use Rattle.order_verdict.specs.Verdict.{unordered_after}
use Rattle.order_verdict.proofs.unordered.push_all_unordered.Given as goal

abbrev pub invariant-loop-place : goal.invariant-loop-place
invariant-loop-place l =
    l.found.items ++ unordered_after (map ordered_kept l.messages) (map air_kept (take l.place l.air))
    (map air_kept (drop l.place l.air))
    ≡ l.fn.found.items ++ unordered_after (map ordered_kept l.messages) [] (map air_kept l.air)
