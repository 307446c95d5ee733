use Rattle.scheduler.proofs.trees.+first_turn.Given as goal

abbrev pub decreases-first_turn : goal.decreases-first_turn
decreases-first_turn l = l.later
