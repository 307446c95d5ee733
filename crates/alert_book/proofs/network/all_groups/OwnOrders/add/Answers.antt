use Rattle.std.proofs.Common.{subst, sym}
use Rattle.alert_book.specs.declared.book.order.Order.{Order}
use Rattle.alert_book.specs.Book.{sending_of, ArePagesOf}
use Rattle.alert_book.specs.Network.{order_to}
use Rattle.alert_book.proofs.AllGroupsLaws.{pages_with, sent_to}
use Rattle.alert_book.proofs.network.all_groups.OwnOrders.add.Goals as goal

pub returns-clause-pages : goal.returns-clause-pages
returns-clause-pages c =
    let own = order_to c.args.order.now c.args.cells.now in
    let sent = c.in_ok-copy.ensures.pages (sending_of own.action)
    (sent_to c.args.order.now c.args.cells.now c.args.paged.now c.requires.here) in
    rw (c.in_ok-push.ensures.items, c.in_ok-push-2.ensures.items)
    (pages_with c.args.self.now.orders.items c.args.self.now.pages.items c.in_ok-own.own c.in_ok-copy.copy
    c.requires.paged
    (subst (λ (o : Order). ArePagesOf (sending_of o.action) c.in_ok-copy.copy) (sym c.in_ok-own.ensures) sent))
