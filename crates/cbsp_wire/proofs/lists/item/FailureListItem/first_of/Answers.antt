use Rattle.std.proofs.Common.{arith}
use Rattle.cbsp_wire.proofs.ItemLemmas.{failures_in-first}
use Rattle.cbsp_wire.proofs.lists.item.FailureListItem.first_of.Goals as goal

pub returns-in-len6-up-clause-first : goal.returns-in-len6-up-clause-first
returns-in-len6-up-clause-first c = rw c.cell_of.ensures (failures_in-first c.args.octets.now (omega arith))
