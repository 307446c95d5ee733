use Rattle.std.proofs.Common.{◌≡◌, ◌-◌, ◌++◌}
use Rattle.std.specs.List.{flat_map, range_with_len}
use Rattle.verification.specs.Difference.{again_difference}
use Rattle.verification.specs.Kept.{asked_kept}
use Rattle.verification.proofs.again.push_again_differences.Given as goal

abbrev pub invariant-loop-broadcast : goal.invariant-loop-broadcast
invariant-loop-broadcast l =
    l.found.items ++ flat_map (again_difference (asked_kept l.asked) l.pages)
    (range_with_len l.broadcast (l.slots - l.broadcast))
    ≡ l.fn.found.items ++ flat_map (again_difference (asked_kept l.asked) l.pages) (range_with_len 0 l.slots)
