use Rattle.std.proofs.Common.{◌≡◌, drop}
use Rattle.std.specs.Prelude.{◌&&◌}
use Rattle.std.specs.List.{list_all}
use Rattle.cbs_page.specs.PagingSteps.{is_own_septet}
use Rattle.cbs_page.proofs.plain.are_own_septets.Given as goal

abbrev pub invariant-loop-octet : goal.invariant-loop-octet
invariant-loop-octet l =
    (l.are_own && list_all is_own_septet (drop l.octet-index l.octets)) ≡ list_all is_own_septet l.octets
