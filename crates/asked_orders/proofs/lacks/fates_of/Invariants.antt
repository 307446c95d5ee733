use Rattle.std.proofs.Common.{◌≡◌, ◌≤◌, ◌++◌, [], drop}
use Rattle.asked_orders.specs.Lacks.{fates_from}
use Rattle.asked_orders.proofs.lacks.fates_of.Given as goal

abbrev pub invariant-loop-order : goal.invariant-loop-order
invariant-loop-order l = record {
  few : l.asked ≤ l.order-index;
  all : l.all.items ++ fates_from l.cell l.log l.asked l.accepted.items (drop l.order-index l.orders)
      ≡ fates_from l.cell l.log 0 [] l.orders;
}
