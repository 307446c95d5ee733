use Rattle.std.proofs.Common.{◌≡◌, Err, List, rules, subst}
use Rattle.alert_book.specs.Book.{HavePages}
use Rattle.alert_book.specs.declared.book.order.Order.{Order}
use Rattle.alert_book.specs.Row.{row_of}
use Rattle.alert_book.proofs.BookLaws.{row_fault_is_read, unread_where}
use Rattle.alert_book.proofs.PageLaws.{pages_length}
use Rattle.alert_book.proofs.book.book_of.Goals as goal

pub invariant_of-result : goal.invariant_of-result
invariant_of-result g c = (
  c.known.invariant.0,
  pages_length c.known.inside.orders.items c.in_ok-pages.pages.items
      (subst (λ (orders : List Order). HavePages orders c.in_ok-pages.pages.items) c.deref.ensures.value
      c.in_ok-pages.ensures.ok),
)

pub returns-in_err-known-clause-unread : goal.returns-in_err-known-clause-unread
returns-in_err-known-clause-unread g c =
    let fault = c.in_err-known.field-0.0 in
    let is : c.from_residual.result ≡ Err fault = search (rules, c.from_residual.ensures) in
    unread_where c.from_residual.result fault is
    (row_fault_is_read row_of c.args.octets.now fault c.in_err-known.ensures.err)
