use Rattle.std.proofs.Common.{ℕ, ◌-◌, length}
use Rattle.scheduler.proofs.Listed.{AreLooked}
use Rattle.scheduler.proofs.tournament.list_due.Given as goal

abbrev pub invariant-loop-looked : goal.invariant-loop-looked
invariant-loop-looked l = (bound : ℕ) × AreLooked l.slot l.nodes l.listed l.count l.looked bound

abbrev pub decreases-loop-looked : goal.decreases-loop-looked
decreases-loop-looked l = length l.nodes - l.looked
