use Rattle.std.proofs.Common.{◌≡◌, ◌∙◌, Err, List, ap, arith, rules, subst}
use Rattle.alert_book.specs.declared.book.order.Order.{Order}
use Rattle.alert_book.specs.declared.network.all_cells.NetworkCells.{NetworkCells}
use Rattle.alert_book.specs.AllGroupsSteps.{AllRowsKept}
use Rattle.alert_book.specs.Book.{HavePages}
use Rattle.alert_book.specs.Network.{row_in_group}
use Rattle.alert_book.proofs.AllGroupsLaws.{network_means, text_faults_in}
use Rattle.alert_book.proofs.BookLaws.{row_fault_is_read, unread_where}
use Rattle.alert_book.proofs.network.all_groups.Network.read.Goals as goal

pub returns-in_err-rows-clause-unread : goal.returns-in_err-rows-clause-unread
returns-in_err-rows-clause-unread g c =
    let fault = c.in_err-rows.field-0.0 in
    let is : c.from_residual.result ≡ Err fault = search (rules, c.from_residual.ensures) in
    unread_where c.from_residual.result fault is
    (row_fault_is_read (row_in_group 0) c.args.octets.now fault c.in_err-rows.ensures.err)

pub returns-in_err-pages-clause-err : goal.returns-in_err-pages-clause-err
returns-in_err-pages-clause-err g c =
    let fault = c.in_err-pages.field-0.0 in
    let is : c.from_residual-in_err-pages.result ≡ Err fault =
    search (rules, c.from_residual-in_err-pages.ensures) in
    text_faults_in c.in_ok-rows.rows c.args.octets.now c.deref.result.now c.from_residual-in_err-pages.result fault is
    (c.deref.ensures.value ∙ ap (λ (k : AllRowsKept). k.orders) c.rows.view_is) c.in_ok-rows.ensures.ok
    (omega (arith, c.if-octets-gt-MAX_NETWORK.false)) c.in_err-pages.ensures.err

pub returns-clause-ok : goal.returns-clause-ok
returns-clause-ok g c =
    network_means c.in_ok-rows.rows c.args.octets.now (record {
      cells = c.declared.inside.0.0.list.items;
      orders = c.rows.inside.orders.items;
      named = c.rows.inside.named.items;
    }) c.in_ok-pages.pages.items
    (ap (λ (n : NetworkCells). n.cells) c.declared.view_is ∙ ap (λ (k : AllRowsKept). k.declared.cells) c.rows.view_is)
    (ap (λ (k : AllRowsKept). k.orders) c.rows.view_is)
    (ap (λ (k : AllRowsKept). k.named) c.rows.view_is)
    c.in_ok-rows.ensures.ok
    (omega (arith, c.if-octets-gt-MAX_NETWORK.false))
    (subst (λ (os : List Order). HavePages os c.in_ok-pages.pages.items)
    (c.deref.ensures.value ∙ ap (λ (k : AllRowsKept). k.orders) c.rows.view_is) c.in_ok-pages.ensures.ok)
