use Rattle.std.proofs.Common.{◌≡◌, ◌≤◌, take}
use Rattle.std.specs.Prelude.{count_by}
use Rattle.order_verdict.specs.Counts.{is_right_by}
use Rattle.order_verdict.proofs.counts.times_by.Given as goal

abbrev pub invariant-loop-page : goal.invariant-loop-page
invariant-loop-page l =
    (l.times ≡ count_by (is_right_by l.last l.number) (take l.page-index l.pages)) × (l.times ≤ l.page-index)
