use Rattle.std.proofs.Common.{◌≡◌, ◌-◌, ◌++◌, length}
use Rattle.std.specs.List.{flat_map, range_with_len}
use Rattle.chart.specs.Panels.{section_at}
use Rattle.chart.proofs.section.push_each_section.Given as goal

abbrev pub invariant-loop-place : goal.invariant-loop-place
invariant-loop-place l =
    l.page ++ flat_map (section_at l.wording l.all) (range_with_len l.place (length l.all - l.place))
    ≡ l.fn.page ++ flat_map (section_at l.wording l.all) (range_with_len 0 (length l.all))
