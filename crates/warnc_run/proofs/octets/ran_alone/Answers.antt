use Rattle.alert_book.specs.declared.network.Origin.TheVariants as origin
use Rattle.warnc_run.proofs.octets.ran_alone.Goals as goal

pub records_alone-requires-clause-book : goal.records_alone-requires-clause-book
records_alone-requires-clause-book c κs =
    c.served_parts_law.ensures.books origin.Book c.args.octets.now c.in-Ok.book c.in-Ok.ensures.ok
