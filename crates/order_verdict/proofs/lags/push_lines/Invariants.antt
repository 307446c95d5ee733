use Rattle.std.proofs.Common.{◌≡◌, ◌++◌, drop, map, string_bytes}
use Rattle.order_verdict.specs.Kept.{air_kept, ordered_kept}
use Rattle.order_verdict.specs.Lags.{lag_lines}
use Rattle.order_verdict.proofs.lags.push_lines.Given as goal

abbrev pub invariant-loop-ordered : goal.invariant-loop-ordered
invariant-loop-ordered l =
    string_bytes l.text ++ lag_lines (map ordered_kept (drop l.ordered-index l.messages)) (map air_kept l.air)
    ≡ string_bytes l.fn.text ++ lag_lines (map ordered_kept l.messages) (map air_kept l.air)
