use Rattle.std.proofs.Common.{◌≡◌, ◌+◌, ◌≤◌, ◌++◌, length, vec_len, vec_capacity}
use Rattle.order_desk.specs.Reply.{refused_in}
use Rattle.order_desk.proofs.desk.reply.refused_in.Given as goal

abbrev pub invariant-answers : goal.invariant-answers
invariant-answers l = record {
  so_far : l.list.items ++ refused_in l.left ≡ refused_in l.answers;
  room : vec_len l.list + length l.left ≤ vec_capacity l.list;
}

abbrev pub decreases-answers : goal.decreases-answers
decreases-answers l = length l.left
