use Rattle.std.proofs.Common.{◌≡◌, drop}
use Rattle.verification.specs.Shift.{smaller}
use Rattle.verification.specs.ShiftSteps.{came_late}
use Rattle.verification.proofs.shift.slots_late.Given as goal

abbrev pub invariant-loop-message : goal.invariant-loop-message
invariant-loop-message l = smaller l.least (came_late (drop l.message-index l.came)) ≡ came_late l.came
