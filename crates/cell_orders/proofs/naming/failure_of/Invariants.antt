use Rattle.std.proofs.Common.{◌≡◌, drop}
use Rattle.cell_orders.specs.Naming.{failure_of}
use Rattle.cell_orders.proofs.naming.failure_of.Given as goal

abbrev pub invariant-loop-failure : goal.invariant-loop-failure
invariant-loop-failure l = failure_of (drop l.failure-index l.failures) l.cell ≡ failure_of l.failures l.cell
