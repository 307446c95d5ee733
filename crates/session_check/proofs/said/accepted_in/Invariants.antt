use Rattle.std.proofs.Common.{◌≡◌, ◌++◌, length}
use Rattle.order_desk.specs.Reply.{accepting_cells}
use Rattle.session_check.proofs.said.accepted_in.Given as goal

abbrev pub invariant-answers : goal.invariant-answers
invariant-answers l = l.list.items ++ accepting_cells l.left ≡ accepting_cells l.answers

abbrev pub decreases-answers : goal.decreases-answers
decreases-answers l = length l.left
