use Rattle.std.proofs.Common.{◌≡◌, ◌+◌, drop}
use Rattle.book_check.specs.Words.{cut_length}
use Rattle.book_check.proofs.value.cut_length.Given as goal

abbrev pub invariant-loop-place : goal.invariant-loop-place
invariant-loop-place l =
    cut_length 80 l.field ≡ l.place + cut_length l.left (drop l.place l.field)
