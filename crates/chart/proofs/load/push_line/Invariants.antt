use Rattle.std.proofs.Common.{◌≡◌, ◌+◌, ◌-◌, ◌++◌, List, length}
use Rattle.std.specs.List.{flat_map, range_with_len}
use Rattle.bsc_table.specs.Claim.{Claim}
use Rattle.chart.specs.Load.{AreLoadsFrom, claimed_before, step_at}
use Rattle.chart.proofs.load.push_line.Given as goal

abbrev pub invariant-loop-place : goal.invariant-loop-place
invariant-loop-place l =
    (claims : List Claim) → AreLoadsFrom l.from claims l.loads
    → (l.before ≡ claimed_before l.from claims (l.from + l.place))
    × (l.page
    ++ flat_map (step_at l.from claims) (range_with_len (l.from + l.place) (length l.loads - l.place))
    ≡ l.fn.page ++ flat_map (step_at l.from claims) (range_with_len l.from (length l.loads)))
