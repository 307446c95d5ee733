use Rattle.gsmtap.proofs.SenderRows.{none_heard}
use Rattle.gsmtap.proofs.sender_table.SenderTable.new.Goals as goal

pub returns : goal.returns
returns c = none_heard c.new.result.items c.new.ensures.items
