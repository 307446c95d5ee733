use Rattle.std.proofs.Common.{◌≡◌, drop}
use Rattle.std.specs.Prelude.{◌&&◌}
use Rattle.std.specs.List.{list_all}
use Rattle.cbs_page.specs.TextSteps.{is_plain}
use Rattle.cbs_page.proofs.text.are_plain.Given as goal

abbrev pub invariant-loop-septet : goal.invariant-loop-septet
invariant-loop-septet l =
    (l.are_plain && list_all is_plain (drop l.septet-index l.septets)) ≡ list_all is_plain l.septets
