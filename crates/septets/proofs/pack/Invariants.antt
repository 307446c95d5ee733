use Rattle.std.proofs.Common.{◌+◌, ◌*◌}
use Rattle.septets.proofs.Windows.{ArePacked}
use Rattle.septets.proofs.pack.Given as goal

abbrev pub invariant-loop-group : goal.invariant-loop-group
invariant-loop-group l = ArePacked l.septets.items l.octets (7 * l.group)

abbrev pub invariant-loop-step : goal.invariant-loop-step
invariant-loop-step l = ArePacked l.septets.items l.octets (7 * l.group + l.step)

abbrev pub invariant-loop-step-2 : goal.invariant-loop-step-2
invariant-loop-step-2 l = ArePacked l.septets.items l.octets (77 + l.step)
