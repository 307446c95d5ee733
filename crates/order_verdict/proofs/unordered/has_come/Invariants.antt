use Rattle.std.proofs.Common.{◌≡◌, drop, map}
use Rattle.std.specs.List.{list_any}
use Rattle.order_verdict.specs.Kept.{air_kept}
use Rattle.order_verdict.specs.Verdict.{has_name_of}
use Rattle.order_verdict.proofs.unordered.has_come.Given as goal

abbrev pub invariant-loop-other : goal.invariant-loop-other
invariant-loop-other l =
    list_any (has_name_of (air_kept l.page)) (map air_kept (drop l.other-index l.before))
    ≡ list_any (has_name_of (air_kept l.page)) (map air_kept l.before)
