use Rattle.std.proofs.Common.{◌≡◌, ◌-◌, find}
use Rattle.std.specs.Prelude.{not}
use Rattle.std.specs.List.{range_with_len}
use Rattle.verification.specs.Explained.{is_lost}
use Rattle.verification.specs.Kept.{asked_kept}
use Rattle.verification.proofs.asked.Asked.next_kept.Given as goal

abbrev pub invariant-loop-later : goal.invariant-loop-later
invariant-loop-later l =
    find (λ k. not (is_lost l.slots (asked_kept l.self) l.pages k)) (range_with_len l.later (l.slots - l.later))
    ≡ find (λ k. not (is_lost l.slots (asked_kept l.self) l.pages k))
    (range_with_len l.broadcast (l.slots - l.broadcast))
