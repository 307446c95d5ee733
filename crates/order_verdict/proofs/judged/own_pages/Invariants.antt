use Rattle.std.proofs.Common.{◌≡◌, ◌++◌, drop, map}
use Rattle.order_verdict.specs.Judged.{own_pages_in}
use Rattle.order_verdict.specs.Kept.{air_kept, ordered_kept}
use Rattle.order_verdict.proofs.judged.own_pages.Given as goal

abbrev pub invariant-loop-page : goal.invariant-loop-page
invariant-loop-page l =
    l.pages.items ++ own_pages_in (ordered_kept l.ordered) (map air_kept (drop l.page-index l.air))
    ≡ own_pages_in (ordered_kept l.ordered) (map air_kept l.air)
