use Rattle.scheduler.proofs.trees.+change_in.Given as goal

abbrev pub decreases-change_in : goal.decreases-change_in
decreases-change_in l = l.later
