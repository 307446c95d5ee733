use Rattle.std.proofs.Common.{◌≡◌, ◌≤◌, ◌+◌, drop}
use Rattle.asked_orders.specs.Lacks.{idle_from}
use Rattle.asked_orders.proofs.lacks.count_idle.Given as goal

abbrev pub invariant-loop-place : goal.invariant-loop-place
invariant-loop-place l = record {
  few : l.count ≤ l.place;
  counted : l.count + idle_from l.cells l.place (drop l.place l.orders) ≡ idle_from l.cells 0 l.orders;
}
