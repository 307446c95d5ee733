use Rattle.warnc_run.proofs.ApartLaws.{joined_have_run}
use Rattle.warnc_run.proofs.apart.records_apart.Goals as goal

pub returns : goal.returns
returns g c =
    joined_have_run c.served_parts_law.ensures.in_a_row c.args.book.now c.args.slots c.size_of_parts-size.result
    c.in_ok-parts.parts.items c.joined.result c.requires c.size_of_parts-size.ensures c.in_ok-parts.ensures
    c.joined.ensures
