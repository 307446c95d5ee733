use Rattle.alert_book.specs.Restricted.{in_part, restricted}
use Rattle.warnc_run.proofs.apart.records_of_part.Goals as goal

pub records_alone-requires-clause-book : goal.records_alone-requires-clause-book
records_alone-requires-clause-book g c κs within =
    c.served_parts_law.ensures.copies (restricted (in_part c.args.cells.now) c.args.book.now) c.in-Ok.part
    c.in-Ok.ensures
    (c.cells_law.ensures.fit c.requires.0 c.requires.1 (in_part c.args.cells.now) c.args.book.now c.requires.2)
