use Rattle.std.proofs.Common.{◌≡◌, map, take}
use Rattle.asked_orders.specs.Lacks.{fates_in}
use Rattle.asked_orders.proofs.lacks.all_fates.Given as goal

abbrev pub invariant-loop-run : goal.invariant-loop-run
invariant-loop-run l = l.cells.items ≡ map (fates_in l.orders) (take l.run-index l.records)
