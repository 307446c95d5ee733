use Rattle.std.proofs.Common.{◌≡◌, drop, map}
use Rattle.std.specs.Prelude.{◌||◌}
use Rattle.cbs_page.specs.declared.octets.PageView.{PageView}
use Rattle.verification.specs.Asked.{is_page_of_any}
use Rattle.verification.specs.Kept.{asked_kept}
use Rattle.verification.specs.Names.{names_page}
use Rattle.verification.proofs.not_ordered.names_of.Given as goal

abbrev pub invariant-loop-asked : goal.invariant-loop-asked
invariant-loop-asked l =
    (page : PageView) → (names_page l.names page || is_page_of_any (map asked_kept (drop l.asked-index l.messages))
    page)
    ≡ is_page_of_any (map asked_kept l.messages) page
