use Rattle.std.proofs.Common.{◌≡◌, ◌+◌, ◌-◌, length}
use Rattle.std.specs.List.{list_any, range_with_len}
use Rattle.verification.specs.Difference.{has_page}
use Rattle.verification.specs.Explained.{has_some}
use Rattle.verification.specs.Kept.{asked_kept}
use Rattle.verification.proofs.asked.Asked.has_some.Given as goal

abbrev pub invariant-loop-place : goal.invariant-loop-place
invariant-loop-place l =
    list_any (has_page (asked_kept l.self) l.pages l.broadcast)
    (range_with_len (l.place + 1) (length l.self.contents.now - l.place))
    ≡ has_some (asked_kept l.self) l.pages l.broadcast
