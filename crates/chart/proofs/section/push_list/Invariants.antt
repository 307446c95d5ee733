use Rattle.std.proofs.Common.{◌≡◌, ◌++◌, drop}
use Rattle.std.specs.List.{flat_map}
use Rattle.chart.specs.Panels.{listed_text}
use Rattle.chart.proofs.section.push_list.Given as goal

abbrev pub invariant-loop-cell : goal.invariant-loop-cell
invariant-loop-cell l =
    l.page ++ flat_map listed_text (drop l.cell-index l.cells) ≡ l.fn.page ++ flat_map listed_text l.cells
