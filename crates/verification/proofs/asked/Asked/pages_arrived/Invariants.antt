use Rattle.std.proofs.Common.{◌≡◌, ◌+◌, ◌-◌, ◌++◌, filter, length}
use Rattle.std.specs.List.{range_with_len}
use Rattle.verification.specs.Difference.{has_page}
use Rattle.verification.specs.Explained.{pages_arrived}
use Rattle.verification.specs.Kept.{asked_kept}
use Rattle.verification.proofs.asked.Asked.pages_arrived.Given as goal

abbrev pub invariant-loop-place : goal.invariant-loop-place
invariant-loop-place l =
    l.numbers.items ++ filter (has_page (asked_kept l.self) l.pages l.broadcast)
    (range_with_len (l.place + 1) (length l.self.contents.now - l.place))
    ≡ pages_arrived (asked_kept l.self) l.pages l.broadcast
