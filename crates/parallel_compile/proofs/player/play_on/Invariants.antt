use Rattle.std.proofs.Common.{◌≡◌, ◌-◌, ◌<◌, vec_len}
use Rattle.parallel_compile.proofs.player.play_on.Given as goal

abbrev pub invariant-loop-from : goal.invariant-loop-from
invariant-loop-from g l = record {
  begun : vec_len l.pieces ≡ 0 → l.from ≡ l.initial.from;
  gone : 0 < vec_len l.pieces → l.initial.from < l.from;
}

abbrev pub decreases-loop-from : goal.decreases-loop-from
decreases-loop-from g l = l.slots - l.from
