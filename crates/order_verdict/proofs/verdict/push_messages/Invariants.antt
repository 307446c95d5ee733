use Rattle.std.proofs.Common.{◌≡◌, ◌++◌, drop, map}
use Rattle.std.specs.List.{flat_map}
use Rattle.order_verdict.specs.Judged.{own_pages_in}
use Rattle.order_verdict.specs.Kept.{air_kept, ordered_kept}
use Rattle.order_verdict.specs.Verdict.{ordered_differences}
use Rattle.order_verdict.proofs.verdict.push_messages.Given as goal

abbrev pub invariant-loop-ordered : goal.invariant-loop-ordered
invariant-loop-ordered l =
    l.found.items ++ flat_map (λ m. ordered_differences l.slots l.delay m (own_pages_in m (map air_kept l.air)))
    (map ordered_kept (drop l.ordered-index l.messages))
    ≡ l.fn.found.items
    ++ flat_map (λ m. ordered_differences l.slots l.delay m (own_pages_in m (map air_kept l.air)))
    (map ordered_kept l.messages)
