use Rattle.std.proofs.Common.{List, subst}
use Rattle.alert_book.specs.Book.{HavePages}
use Rattle.alert_book.specs.declared.book.order.Order.{Order}
use Rattle.alert_book.proofs.PageLaws.{pages_length}
use Rattle.alert_book.proofs.book.book_in_turn.Goals as goal

pub invariant_of-result : goal.invariant_of-result
invariant_of-result c = (
  c.known.invariant.0,
  pages_length c.known.inside.orders.items c.in_ok-pages.pages.items
      (subst (λ (orders : List Order). HavePages orders c.in_ok-pages.pages.items) c.deref.ensures.value
      c.in_ok-pages.ensures.ok),
)
