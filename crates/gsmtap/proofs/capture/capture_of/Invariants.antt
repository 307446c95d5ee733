use Rattle.std.proofs.Common.{◌-◌, ◌≤◌}
use Rattle.gsmtap.proofs.TapeSteps.{ArePushed}
use Rattle.gsmtap.proofs.capture.capture_of.Given as goal

abbrev pub invariant-tapes : goal.invariant-tapes
invariant-tapes l = record {
  few : l.number ≤ 64;
  pushed : ArePushed l.settings l.fn.input l.left l.number l.output.items;
}

abbrev pub decreases-tapes : goal.decreases-tapes
decreases-tapes l = 64 - l.number
