use Rattle.std.proofs.Common.{◌<◌, List, sym, subst}
use Rattle.std.specs.List.{AllPairs}
use Rattle.scheduler.specs.declared.scheduled.Scheduled.{Scheduled}
use Rattle.scheduler.proofs.FirstTurn.{rising_of_seen}
use Rattle.scheduler.proofs.trees.play.Goals as goal

pub first_turn-turn-requires-clause-rising : goal.first_turn-turn-requires-clause-rising
first_turn-turn-requires-clause-rising c = rising_of_seen c.args.slot c.args.nodes.now c.requires.rising

pub air-requires-clause-rising : goal.air-requires-clause-rising
air-requires-clause-rising c =
    let Rising : List Scheduled → Type 0 = λ ts. AllPairs (λ a b. a.item.entry < b.item.entry) ts in
    rising_of_seen c.args.slot c.first_turn-turn.new.nodes (subst Rising (sym c.first_turn-turn.ensures.seen)
    c.requires.rising)
