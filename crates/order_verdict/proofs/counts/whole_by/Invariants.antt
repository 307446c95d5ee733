use Rattle.std.proofs.Common.{◌≡◌, ◌+◌, ◌-◌}
use Rattle.std.specs.Prelude.{fold, min}
use Rattle.std.specs.List.{range_with_len}
use Rattle.order_verdict.specs.Counts.{times_by, whole_by}
use Rattle.order_verdict.proofs.counts.whole_by.Given as goal

abbrev pub invariant-loop-place : goal.invariant-loop-place
invariant-loop-place l =
    fold (λ least number. min least (times_by l.pages l.last number)) l.least
    (range_with_len (l.place + 1) (l.total - l.place))
    ≡ whole_by l.total l.pages l.last
