use Rattle.std.proofs.Common.{◌≡◌, ◌++◌, drop, map}
use Rattle.std.specs.List.{flat_map}
use Rattle.verification.specs.Difference.{message_differences}
use Rattle.verification.specs.Judged.{judged_in}
use Rattle.verification.specs.Kept.{asked_kept}
use Rattle.verification.proofs.cell.push_messages.Given as goal

abbrev pub invariant-loop-asked : goal.invariant-loop-asked
invariant-loop-asked l =
    l.found.items ++ flat_map (λ a. message_differences l.slots a (judged_in a l.sent))
    (map asked_kept (drop l.asked-index l.messages))
    ≡ l.fn.found.items
    ++ flat_map (λ a. message_differences l.slots a (judged_in a l.sent)) (map asked_kept l.messages)
