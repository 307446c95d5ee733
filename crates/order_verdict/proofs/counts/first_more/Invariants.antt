use Rattle.std.proofs.Common.{◌≡◌, drop, find}
use Rattle.order_verdict.specs.Counts.{is_more}
use Rattle.order_verdict.proofs.counts.first_more.Given as goal

abbrev pub invariant-loop-page : goal.invariant-loop-page
invariant-loop-page l =
    find (is_more l.total l.broadcasts l.pages) (drop l.page-index l.pages)
    ≡ find (is_more l.total l.broadcasts l.pages) l.pages
