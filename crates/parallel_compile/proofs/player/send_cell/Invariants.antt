use Rattle.std.proofs.Common.{◌-◌}
use Rattle.parallel_compile.proofs.player.send_cell.Given as goal

abbrev pub decreases-loop-from : goal.decreases-loop-from
decreases-loop-from g l = l.desk.slots - l.from
