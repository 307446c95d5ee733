use Rattle.std.proofs.Common.{◌≡◌, ◌+◌, ◌-◌, length}
use Rattle.std.specs.List.{list_all, range_with_len}
use Rattle.verification.specs.Difference.{has_page, is_whole}
use Rattle.verification.specs.Kept.{asked_kept}
use Rattle.verification.proofs.asked.Asked.is_whole.Given as goal

abbrev pub invariant-loop-place : goal.invariant-loop-place
invariant-loop-place l =
    list_all (has_page (asked_kept l.self) l.pages l.broadcast)
    (range_with_len (l.place + 1) (length l.self.contents.now - l.place))
    ≡ is_whole (asked_kept l.self) l.pages l.broadcast
