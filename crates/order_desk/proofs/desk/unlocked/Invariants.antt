use Rattle.std.proofs.Common.{◌≡◌, length, vec_len}
use Rattle.order_desk.proofs.desk.unlocked.Given as goal

abbrev pub invariant-loop-lock : goal.invariant-loop-lock
invariant-loop-lock l = vec_len l.books ≡ length l.yielded
