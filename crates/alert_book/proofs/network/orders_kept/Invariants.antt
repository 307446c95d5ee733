use Rattle.std.proofs.Common.{◌≡◌, filter}
use Rattle.alert_book.specs.Network.{has_cells}
use Rattle.alert_book.proofs.network.orders_kept.Given as goal

abbrev pub invariant-loop-order : goal.invariant-loop-order
invariant-loop-order l = l.kept.items ≡ filter has_cells l.yielded
