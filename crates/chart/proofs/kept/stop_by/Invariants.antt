use Rattle.std.proofs.Common.{◌≡◌, ◌++◌, take, drop, map}
use Rattle.chart.specs.Kept.{kept_stopped}
use Rattle.chart.proofs.kept.stop_by.Given as goal

abbrev pub invariant-loop-place : goal.invariant-loop-place
invariant-loop-place l =
    l.all.items ≡ map (kept_stopped l.entry) (take l.place l.initial.all.items) ++ drop l.place l.initial.all.items
