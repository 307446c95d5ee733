use Rattle.std.proofs.Common.{◌≡◌, drop}
use Rattle.cell_orders.specs.Naming.{count_of}
use Rattle.cell_orders.proofs.naming.count_of.Given as goal

abbrev pub invariant-loop-count : goal.invariant-loop-count
invariant-loop-count l = count_of (drop l.count-index l.completed) l.cell ≡ count_of l.completed l.cell
