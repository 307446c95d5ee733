use Rattle.std.proofs.Common.{◌≡◌, ◌+◌, drop}
use Rattle.chart.specs.Panels.{are_in_turn}
use Rattle.chart.proofs.section.are_in_turn.Given as goal

abbrev pub invariant-loop-place : goal.invariant-loop-place
invariant-loop-place l =
    are_in_turn l.first.lac (l.first.ci + l.place) (drop l.place l.cells)
    ≡ are_in_turn l.first.lac l.first.ci l.cells
