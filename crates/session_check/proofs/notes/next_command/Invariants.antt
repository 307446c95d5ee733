use Rattle.std.proofs.Common.{◌≡◌, length}
use Rattle.session_check.specs.NotedSteps.{commands_in}
use Rattle.session_check.proofs.notes.next_command.Given as goal

abbrev pub invariant-loop-first : goal.invariant-loop-first
invariant-loop-first l = commands_in l.fn.notes ≡ commands_in l.left

abbrev pub decreases-loop-first : goal.decreases-loop-first
decreases-loop-first l = length l.left
