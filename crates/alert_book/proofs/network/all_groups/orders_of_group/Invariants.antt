use Rattle.std.proofs.Common.{◌≡◌, filter, take}
use Rattle.alert_book.specs.Book.{HavePages}
use Rattle.alert_book.specs.Network.{has_cells, orders_in}
use Rattle.alert_book.proofs.network.all_groups.orders_of_group.Given as goal

abbrev pub invariant-loop-place : goal.invariant-loop-place
invariant-loop-place l =
    (l.own.orders.items ≡ filter has_cells (orders_in l.fn.cells l.fn.group (take l.place l.fn.orders)
    (take l.place l.fn.named)))
    × HavePages l.own.orders.items l.own.pages.items
