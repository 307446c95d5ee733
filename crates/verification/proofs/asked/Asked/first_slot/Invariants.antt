use Rattle.std.proofs.Common.{◌≡◌, drop, find}
use Rattle.verification.specs.Difference.{differs}
use Rattle.verification.specs.Kept.{asked_kept}
use Rattle.verification.proofs.asked.Asked.first_slot.Given as goal

abbrev pub invariant-loop-page : goal.invariant-loop-page
invariant-loop-page l =
    find (differs (asked_kept l.self) l.kind) (drop l.page-index l.pages)
    ≡ find (differs (asked_kept l.self) l.kind) l.pages
