use Rattle.std.proofs.Common.{arith}
use Rattle.scheduler.proofs.FirstTurn.{blank}
use Rattle.scheduler.proofs.Found.{not_there}
use Rattle.scheduler.proofs.tournament.find.Goals as goal
use Rattle.scheduler.proofs.tournament.find.Goals.{else-place-nodes-via-then-place-nodes+else-nodes-place}
use Rattle.scheduler.proofs.tournament.find.Goals.{else-place-nodes-via-else-place-nodes}

pub returns-else-place-nodes : goal.returns-else-place-nodes
returns-else-place-nodes c =
    elim c.else-place-nodes.branch [
      | else-place-nodes-via-then-place-nodes+else-nodes-place w ↦
          not_there c.args.entry c.args.nodes.now c.place_of-place.result blank c.requires c.place_of-place.ensures
          (λ within. w.if-nodes-place.false)
      | else-place-nodes-via-else-place-nodes w ↦
          not_there c.args.entry c.args.nodes.now c.place_of-place.result blank c.requires c.place_of-place.ensures
          (λ within. absurd (omega (arith, within, w.if-place-nodes.false)))
    ]
