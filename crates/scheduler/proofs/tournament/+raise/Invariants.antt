use Rattle.scheduler.proofs.tournament.+raise.Given as goal

abbrev pub decreases-raise : goal.decreases-raise
decreases-raise l = l.place
