use Rattle.scheduler.proofs.Found.{none_named, one_standing, one_stopped}
use Rattle.scheduler.proofs.tournament.has_standing.Goals as goal

pub returns-in-None : goal.returns-in-None
returns-in-None c = λ slot. λ k t within. λ named.
    absurd (none_named c.args.entry slot c.args.nodes.now c.in-None.ensures k t within named)

pub returns-in-None-stop : goal.returns-in-None-stop
returns-in-None-stop c = λ slot.
    one_standing c.args.entry slot c.args.nodes.now c.in-Some.place c.in-Some.ensures c.in-None-stop.is

pub returns-in-Some-stop : goal.returns-in-Some-stop
returns-in-Some-stop c = λ slot.
    one_stopped c.args.entry slot _ c.args.nodes.now c.in-Some.place c.requires c.in-Some.ensures c.in-Some-stop.is
