use Rattle.std.proofs.Common.{◌≡◌, map, take}
use Rattle.std.specs.List.{AllZip}
use Rattle.alert_book.specs.Laws.{HaveSamePages}
use Rattle.alert_book.specs.Restricted.{PagedOrder, in_part, kept_orders}
use Rattle.alert_book.specs.Session.{orders_with}
use Rattle.alert_book.proofs.network.some_cells.orders_among.Given as goal

abbrev pub invariant-loop-place : goal.invariant-loop-place
invariant-loop-place l =
    (l.kept.orders.items ≡ map (λ (o : PagedOrder). o.0)
    (kept_orders (in_part l.fn.these) (orders_with (take l.place l.fn.orders) (take l.place l.fn.pages))))
    × AllZip HaveSamePages (map (λ (o : PagedOrder). o.1)
    (kept_orders (in_part l.fn.these) (orders_with (take l.place l.fn.orders) (take l.place l.fn.pages))))
    l.kept.pages.items
