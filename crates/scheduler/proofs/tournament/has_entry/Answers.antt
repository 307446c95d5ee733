use Rattle.scheduler.proofs.Found.{none_named, one_named}
use Rattle.scheduler.proofs.tournament.has_entry.Goals as goal

pub returns-in-None : goal.returns-in-None
returns-in-None c = λ slot. none_named c.args.entry slot c.args.nodes.now c.in-None.ensures

pub returns-in-Some : goal.returns-in-Some
returns-in-Some c = λ slot. one_named c.args.entry slot c.args.nodes.now _ c.in-Some.ensures
