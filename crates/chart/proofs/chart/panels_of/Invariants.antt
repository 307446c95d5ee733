use Rattle.std.proofs.Common.{◌≡◌, ◌++◌, drop}
use Rattle.handset.specs.Tape.{readings_of}
use Rattle.chart.specs.ChartText.{panels_of}
use Rattle.chart.proofs.chart.panels_of.Given as goal

abbrev pub invariant-loop-place : goal.invariant-loop-place
invariant-loop-place l =
    l.panels.items ++ panels_of l.view l.orders (drop l.place l.records) (readings_of (drop l.place l.readings))
    ≡ panels_of l.view l.orders l.records (readings_of l.readings)
