use Rattle.std.proofs.Common.{◌≡◌, ◌+◌, ◌≤◌, ◌++◌, length, vec_len, vec_capacity}
use Rattle.order_desk.specs.Reply.{accepting_cells}
use Rattle.order_desk.proofs.desk.reply.accepted_in.Given as goal

abbrev pub invariant-answers : goal.invariant-answers
invariant-answers l = record {
  so_far : l.list.items ++ accepting_cells l.left ≡ accepting_cells l.answers;
  room : vec_len l.list + length l.left ≤ vec_capacity l.list;
}

abbrev pub decreases-answers : goal.decreases-answers
decreases-answers l = length l.left
