use Rattle.std.proofs.Common.{◌∙◌, List, All, ap, length, map, subst, sym}
use Rattle.std.proofs.lemmas.List.{length-map}
use Rattle.alert_book.specs.declared.book.order.Order.{Order}
use Rattle.alert_book.specs.Restricted.{PagedOrder, in_part, kept_orders}
use Rattle.alert_book.specs.SendableSteps.{IsSendable}
use Rattle.alert_book.specs.Session.{orders_with}
use Rattle.alert_book.proofs.RestrictedLaws.{kept_sendable, same_length}
use Rattle.alert_book.proofs.book.Book.part.Goals as goal

pub invariant_of-result : goal.invariant_of-result
invariant_of-result c =
    let orders = c.deref-2.result.now in
    let pages = c.deref-3.result.now in
    let kept : List PagedOrder = kept_orders (in_part c.args.these.now) (orders_with orders pages) in
    let all : All IsSendable orders =
    subst (λ (os : List Order). All IsSendable os) (sym c.deref-2.ensures.value) c.self.invariant.0 in (
      rw c.in_ok-orders.ensures.orders (kept_sendable (in_part c.args.these.now) orders pages all),
      sym (same_length (map (λ (o : PagedOrder). o.1) kept) c.in_ok-orders.field-0.pages.items
          c.in_ok-orders.ensures.pages)
          ∙ length-map kept (λ (o : PagedOrder). o.1) ∙ sym (length-map kept (λ (o : PagedOrder). o.0))
          ∙ sym (ap (λ (os : List Order). length os) c.in_ok-orders.ensures.orders),
    )
