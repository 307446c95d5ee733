use Rattle.std.proofs.Common.{sym, subst}
use Rattle.scheduler.specs.declared.tournament.Node.{Node}
use Rattle.scheduler.specs.QueueSteps.{HasTurn}
use Rattle.scheduler.proofs.tournament.Node.refresh.Goals as goal
use Rattle.scheduler.proofs.tournament.Node.refresh.Goals.{then-self-from, else-self-from}

pub returns-clause-turn : goal.returns-clause-turn
returns-clause-turn c =
    let Turn : Node → Type 0 = λ n. HasTurn n.kept in
    elim c.if-self-from.branch [
      | then-self-from w ↦ subst Turn (sym w.self-is) w.refreshed-self.ensures.turn
      | else-self-from w ↦ subst Turn (sym w.self-is) c.requires.turn
    ]
