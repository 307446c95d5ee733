use Rattle.std.proofs.Common.{◌≡◌, ◌+◌, ◌≤◌, ◌++◌, length, vec_len, vec_capacity}
use Rattle.order_desk.specs.Reply.{counted_in}
use Rattle.order_desk.proofs.desk.reply.counted_in.Given as goal

abbrev pub invariant-answers : goal.invariant-answers
invariant-answers l = record {
  so_far : l.list.items ++ counted_in l.left ≡ counted_in l.answers;
  room : vec_len l.list + length l.left ≤ vec_capacity l.list;
}

abbrev pub decreases-answers : goal.decreases-answers
decreases-answers l = length l.left
