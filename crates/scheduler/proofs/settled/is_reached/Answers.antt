use Rattle.std.proofs.Common.{refl}
use Rattle.scheduler.proofs.Ended.{reached_by_last}
use Rattle.scheduler.proofs.settled.is_reached.Goals as goal

pub returns-then-count-gt0 : goal.returns-then-count-gt0
returns-then-count-gt0 c = reached_by_last c.args.entry c.args.nodes.now _ c.requires c.if-count-gt0.true refl
