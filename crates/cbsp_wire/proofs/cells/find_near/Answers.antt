use Rattle.cbsp_wire.proofs.CellLists.{not_there}
use Rattle.cbsp_wire.proofs.cells.find_near.Goals as goal

pub returns-clause-absent : goal.returns-clause-absent
returns-clause-absent c = not_there c.args.cells.now c.args.cell c.find.result c.find.ensures
