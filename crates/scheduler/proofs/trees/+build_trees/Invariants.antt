use Rattle.scheduler.proofs.trees.+build_trees.Given as goal

abbrev pub decreases-build_trees : goal.decreases-build_trees
decreases-build_trees l = l.later
