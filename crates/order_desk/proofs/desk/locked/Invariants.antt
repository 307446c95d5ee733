use Rattle.std.proofs.Common.{◌≡◌, length, vec_len}
use Rattle.order_desk.proofs.desk.locked.Given as goal

abbrev pub invariant-loop-book : goal.invariant-loop-book
invariant-loop-book l = vec_len l.locks ≡ length l.yielded
