use Rattle.std.proofs.Common.{[]}
use Rattle.warnc_inspect.proofs.slots.SlotTable.new.Goals as goal

pub returns-clause-table : goal.returns-clause-table
returns-clause-table c = c.in_ok-push_row.ensures [] c.in_ok-table.ensures
