use Rattle.std.proofs.Common.{◌≡◌, ◌+◌, ◌-◌, ◌++◌}
use Rattle.std.specs.List.{flat_map, range_with_len}
use Rattle.chart.specs.Time.{tick_within}
use Rattle.chart.specs.declared.time.TheConstants.{MOST_TICKS}
use Rattle.chart.proofs.time.push_ticks_by.Given as goal

abbrev pub invariant-loop-number : goal.invariant-loop-number
invariant-loop-number l =
    l.page
    ++ flat_map (tick_within l.start l.stretch l.step) (range_with_len l.number (l.first + MOST_TICKS - l.number))
    ≡ l.fn.page ++ flat_map (tick_within l.start l.stretch l.step) (range_with_len l.first MOST_TICKS)
