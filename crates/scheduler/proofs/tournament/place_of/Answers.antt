use Rattle.scheduler.proofs.Places.{place_where_it_stands}
use Rattle.scheduler.proofs.tournament.place_of.Goals as goal

pub returns-then-stands_at : goal.returns-then-stands_at
returns-then-stands_at c =
    let stands = c.stands_at.ensures c.if-stands_at.true in
    place_where_it_stands c.args.nodes.now c.likely_place-likely.result c.args.entry c.requires stands.0 stands.1
