use Rattle.std.proofs.Common.{sym}
use Rattle.bsc_table.specs.Accepted.{accepted_of}
use Rattle.bsc_table.proofs.Cell.PlanOfTable.{found_is_there}
use Rattle.bsc_table.proofs.book.CellBook.status.Goals as goal

pub completed-requires : goal.completed-requires
completed-requires c =
    found_is_there c.args.id c.args.serial c.args.self.now.log (accepted_of c.in-Ok.kept.message) (sym c.in-Ok.ensures)
