use Rattle.std.proofs.Common.{◌-◌}
use Rattle.tickets.specs.Draws.{IsSeatOf}
use Rattle.parallel_compile.proofs.Drawn.{above}
use Rattle.parallel_compile.proofs.player.send_drawn.Given as goal

abbrev pub invariant-loop-number : goal.invariant-loop-number
invariant-loop-number g l = IsSeatOf l.counter l.seat

abbrev pub decreases-loop-number : goal.decreases-loop-number
decreases-loop-number g l = l.counter.limit - above l.seat.drawn
