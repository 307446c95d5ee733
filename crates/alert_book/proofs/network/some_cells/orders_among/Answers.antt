use Rattle.std.proofs.Common.{◌∷◌, [], ◌++◌, List, Option, arith, map, refl, subst, take}
use Rattle.std.specs.List.{AllZip}
use Rattle.cbs_page.specs.declared.paging.Paged.{Paged}
use Rattle.alert_book.specs.Laws.{HaveSamePages}
use Rattle.alert_book.specs.Restricted.{PagedOrder, in_part, kept_orders}
use Rattle.alert_book.specs.Session.{orders_with}
use Rattle.alert_book.proofs.RestrictedLaws.{taken_next}
use Rattle.alert_book.proofs.network.some_cells.orders_among.Goals as goal

pub loop-place-preserved : goal.loop-place-preserved
loop-place-preserved c =
    let keep = in_part c.args.these.now in
    let orders = c.args.orders.now in
    let pages = c.args.pages.now in
    let at = c.loop-place.place in
    let o = c.index-orders-place.result in
    let p = c.index-pages-place.result in
    let front : List (Option Paged) =
    map (λ (o : PagedOrder). o.1) (kept_orders keep (orders_with (take at orders) (take at pages))) in (
      taken_next (λ (o : PagedOrder). o.0) keep orders pages at o p c.loop-place.kept.orders.items
          c.add.new.self.orders.items (omega (arith, c.loop-place-test.true)) c.requires c.index-orders-place.is
          c.index-pages-place.is c.loop-place.invariant.0 c.in_ok-add.ensures.orders,
      subst (λ (l : List (Option Paged)). AllZip HaveSamePages l c.add.new.self.pages.items)
          (taken_next (λ (o : PagedOrder). o.1) keep orders pages at o p front
          (front ++ map (λ (o : PagedOrder). o.1) (kept_orders keep ((o, p) ∷ [])))
          (omega (arith, c.loop-place-test.true)) c.requires c.index-orders-place.is c.index-pages-place.is refl refl)
          (c.in_ok-add.ensures.pages front c.loop-place.invariant.1),
    )
