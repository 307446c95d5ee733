use Rattle.std.proofs.Common.{◌-◌}
use Rattle.tickets.specs.Draws.{IsSeatOf}
use Rattle.parallel_compile.proofs.Drawn.{above}
use Rattle.warnc_run.proofs.workers.play_drawn.Given as goal

abbrev pub invariant-loop-place : goal.invariant-loop-place
invariant-loop-place g l = IsSeatOf l.counter l.seat

abbrev pub decreases-loop-place : goal.decreases-loop-place
decreases-loop-place g l = l.counter.limit - above l.seat.drawn
