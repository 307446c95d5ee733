use Rattle.std.proofs.Common.{ap, sym}
use Rattle.scheduler.specs.declared.scheduled.Scheduled.{Scheduled}
use Rattle.scheduler.proofs.Found.{none_named, only_named}
use Rattle.scheduler.proofs.tournament.completed_of.Goals as goal

pub returns-in-None : goal.returns-in-None
returns-in-None c = λ slot. λ k t within. λ named.
    absurd (none_named c.args.entry slot c.args.nodes.now c.in-None.ensures k t within named)

pub returns-in-Some : goal.returns-in-Some
returns-in-Some c = λ slot. λ k t within. λ named.
    sym (ap (λ (x : Scheduled). x.completed) (only_named c.args.entry slot c.args.nodes.now c.in-Some.place c.requires
    c.in-Some.ensures k t within named))
