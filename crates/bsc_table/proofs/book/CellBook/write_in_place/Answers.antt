use Rattle.bsc_table.specs.Accepted.{accepted_of}
use Rattle.bsc_table.proofs.Cell.Entered.{live_in}
use Rattle.bsc_table.proofs.book.CellBook.write_in_place.Goals as goal

pub take_over-requires-clause-live : goal.take_over-requires-clause-live
take_over-requires-clause-live c =
    live_in c.args.self.now c.args.new.now.id c.args.replaced (accepted_of c.in-Some.kept.message) c.in-Some.ensures
