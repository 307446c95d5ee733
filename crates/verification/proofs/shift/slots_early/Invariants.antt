use Rattle.std.proofs.Common.{◌≡◌, drop, max}
use Rattle.verification.specs.ShiftSteps.{came_early}
use Rattle.verification.proofs.shift.slots_early.Given as goal

abbrev pub invariant-loop-message : goal.invariant-loop-message
invariant-loop-message l = max l.most (came_early (drop l.message-index l.came)) ≡ came_early l.came
