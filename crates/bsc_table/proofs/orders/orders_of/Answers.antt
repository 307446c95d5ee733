use Rattle.bsc_table.proofs.Cell.CommandOfMessage.{meant_broadcastable}
use Rattle.bsc_table.proofs.orders.orders_of.Goals as goal

pub returns-in-Write-clause-formed : goal.returns-in-Write-clause-formed
returns-in-Write-clause-formed c =
    let w = c.in-Write in
    λ octets meant. meant_broadcastable octets c.args.message w.id w.new_serial w.old_serial w.cells w.channel
    w.category w.period w.broadcasts w.dcs w.contents w.is meant
