use Rattle.std.proofs.Common.{◌≡◌, Err, rules}
use Rattle.alert_book.specs.Network.{row_in_group}
use Rattle.alert_book.proofs.BookLaws.{row_fault_is_read, unread_where}
use Rattle.alert_book.proofs.network.network_of.Goals as goal

pub returns-in_err-rows-clause-unread : goal.returns-in_err-rows-clause-unread
returns-in_err-rows-clause-unread g c =
    let fault = c.in_err-rows.field-0.0 in
    let is : c.from_residual.result ≡ Err fault = search (rules, c.from_residual.ensures) in
    unread_where c.from_residual.result fault is
    (row_fault_is_read (row_in_group c.args.group) c.args.octets.now fault c.in_err-rows.ensures.err)
