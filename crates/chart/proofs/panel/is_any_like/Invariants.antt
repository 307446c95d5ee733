use Rattle.std.proofs.Common.{◌≡◌, drop}
use Rattle.chart.specs.Panels.{is_any_like}
use Rattle.chart.proofs.panel.is_any_like.Given as goal

abbrev pub invariant-loop-other : goal.invariant-loop-other
invariant-loop-other l = is_any_like l.panel (drop l.other-index l.others) ≡ is_any_like l.panel l.others
