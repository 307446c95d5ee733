use Rattle.scheduler.proofs.tournament.+lift.Given as goal

abbrev pub decreases-lift : goal.decreases-lift
decreases-lift l = l.place
