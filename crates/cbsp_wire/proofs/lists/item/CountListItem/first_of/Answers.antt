use Rattle.std.proofs.Common.{arith}
use Rattle.cbsp_wire.proofs.ItemLemmas.{counts_in-first}
use Rattle.cbsp_wire.proofs.lists.item.CountListItem.first_of.Goals as goal

pub returns-in-len7-up-clause-first : goal.returns-in-len7-up-clause-first
returns-in-len7-up-clause-first c =
    rw (c.cell_of.ensures, c.from.ensures, c.from-in-len7-up.ensures) (counts_in-first c.args.octets.now (omega arith))
