use Rattle.std.proofs.Common.{◌≡◌, ◌++◌, drop}
use Rattle.std.specs.List.{flat_map}
use Rattle.handset.specs.Keeping.{messages_shown}
use Rattle.chart.specs.ChartText.{line_of}
use Rattle.chart.proofs.line.CellContext.push_lines.Given as goal

abbrev pub invariant-loop-row : goal.invariant-loop-row
invariant-loop-row l =
    l.page
    ++ flat_map (line_of l.self.wording l.self.run.now l.self.stretch l.self.orders.now
    (messages_shown l.self.shown.now)) (drop l.row-index l.rows)
    ≡ l.fn.page
    ++ flat_map (line_of l.self.wording l.self.run.now l.self.stretch l.self.orders.now
    (messages_shown l.self.shown.now)) l.rows
