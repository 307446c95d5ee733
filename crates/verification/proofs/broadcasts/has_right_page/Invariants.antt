use Rattle.std.proofs.Common.{◌≡◌, drop}
use Rattle.std.specs.Prelude.{◌==◌, ◌&&◌}
use Rattle.std.specs.List.{list_any}
use Rattle.verification.proofs.broadcasts.has_right_page.Given as goal

abbrev pub invariant-loop-page : goal.invariant-loop-page
invariant-loop-page l =
    list_any (λ page. (page.number == l.number) && page.right) (drop l.page-index l.pages)
    ≡ list_any (λ page. (page.number == l.number) && page.right) l.pages
