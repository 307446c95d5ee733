use Rattle.bsc_table.proofs.Load.Bounds.{completed_is_at_most, completed_is_at_least, bounds_are_near}
use Rattle.bsc_table.proofs.Load.Foreground.{foreground_is_at_least}
use Rattle.bsc_table.proofs.laws.completed_bounds.Goals as goal

pub returns : goal.returns
returns c = record {
  completed_is_at_most = completed_is_at_most;
  completed_is_at_least = completed_is_at_least;
  foreground_is_at_least = foreground_is_at_least;
  bounds_are_near = bounds_are_near;
}
