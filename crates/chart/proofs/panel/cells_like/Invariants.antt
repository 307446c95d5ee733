use Rattle.std.proofs.Common.{◌≡◌, ◌++◌, drop}
use Rattle.chart.specs.Panels.{cells_like}
use Rattle.chart.proofs.panel.cells_like.Given as goal

abbrev pub invariant-loop-other : goal.invariant-loop-other
invariant-loop-other l = l.cells.items ++ cells_like l.panel (drop l.other-index l.all) ≡ cells_like l.panel l.all
