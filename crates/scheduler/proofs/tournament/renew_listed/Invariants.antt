use Rattle.std.proofs.Common.{◌≤◌}
use Rattle.scheduler.proofs.Listed.{AreRenewed}
use Rattle.scheduler.proofs.tournament.renew_listed.Given as goal

abbrev pub invariant-loop-left : goal.invariant-loop-left
invariant-loop-left l = (l.left ≤ l.count) × AreRenewed l.slot l.listed l.left l.initial.nodes l.nodes

abbrev pub decreases-loop-left : goal.decreases-loop-left
decreases-loop-left l = l.left
