use Rattle.std.proofs.Common.{◌≡◌, ◌*◌, ◌≤◌, sum, take}
use Rattle.link_capture.proofs.sums.sum_of.Given as goal

abbrev pub invariant-loop-word : goal.invariant-loop-word
invariant-loop-word l = (l.sum ≡ sum (take l.word-index l.words)) × (l.sum ≤ 65535 * l.word-index)
