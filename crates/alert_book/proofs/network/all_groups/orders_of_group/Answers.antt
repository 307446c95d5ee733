use Rattle.std.proofs.Common.{Option, arith, get_or, subst, sym}
use Rattle.cbs_page.specs.declared.paging.Paged.{Paged}
use Rattle.alert_book.specs.declared.book.order.Order.{Order}
use Rattle.alert_book.specs.Book.{sending_of, ArePagesOf}
use Rattle.alert_book.proofs.AllGroupsLaws.{in_next, pages_at}
use Rattle.alert_book.proofs.PageLaws.{pages_length}
use Rattle.alert_book.proofs.network.all_groups.orders_of_group.Goals as goal

pub bounds-pages-place : goal.bounds-pages-place
bounds-pages-place c =
    let many = pages_length c.args.orders.now c.args.pages.now c.requires.paged in
    omega (arith, many, c.loop-place-test.true)

pub add-requires-clause-here : goal.add-requires-clause-here
add-requires-clause-here c =
    let at = c.loop-place.place in
    let o = c.index-orders-place.result in
    let p = c.index-pages-place.result in
    subst (λ (x : Order). ArePagesOf (sending_of x.action) p) (sym c.index-orders-place.is)
    (subst (λ (x : Option Paged). ArePagesOf (sending_of (get_or c.args.orders.now at o).action) x)
    (sym c.index-pages-place.is)
    (pages_at c.args.orders.now c.args.pages.now at o p (omega (arith, c.loop-place-test.true)) c.requires.paged))

pub loop-place-preserved : goal.loop-place-preserved
loop-place-preserved c = (
  in_next c.args.cells.now c.args.group c.args.orders.now c.args.named.now c.loop-place.place
      c.index-orders-place.result c.index-named-place.result c.named_in_group-part.result.now
      c.loop-place.own.orders.items c.add.new.self.orders.items (omega (arith, c.loop-place-test.true))
      c.requires.named c.index-orders-place.is c.index-named-place.is c.named_in_group-part.ensures
      c.loop-place.invariant.0 c.in_ok-add.ensures.orders,
  c.in_ok-add.ensures.pages,
)
