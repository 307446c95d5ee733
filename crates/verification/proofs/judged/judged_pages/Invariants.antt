use Rattle.std.proofs.Common.{◌≡◌, ◌++◌, drop}
use Rattle.verification.specs.Judged.{judged_in}
use Rattle.verification.specs.Kept.{asked_kept}
use Rattle.verification.proofs.judged.judged_pages.Given as goal

abbrev pub invariant-loop-sent_page : goal.invariant-loop-sent_page
invariant-loop-sent_page l =
    l.pages.items ++ judged_in (asked_kept l.asked) (drop l.sent_page-index l.candidates)
    ≡ judged_in (asked_kept l.asked) l.candidates
