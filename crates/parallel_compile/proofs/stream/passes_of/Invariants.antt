use Rattle.std.proofs.Common.{◌≡◌, length, vec_len}
use Rattle.parallel_compile.proofs.stream.passes_of.Given as goal

abbrev pub invariant-loop-handle : goal.invariant-loop-handle
invariant-loop-handle g l = vec_len l.passes ≡ length l.yielded
