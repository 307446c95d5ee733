use Rattle.std.proofs.Common.{◌≡◌, ◌++◌, List}
use Rattle.handset.specs.Reception.{ShownMessage}
use Rattle.report.specs.RowSteps.{HasNames, rows_before}
use Rattle.report.proofs.cell.CellContext.push_rows.Given as goal

abbrev pub invariant-loop-place : goal.invariant-loop-place
invariant-loop-place l =
    (shown : List ShownMessage) → HasNames l.self.shown.now shown → l.rows.items
    ≡ l.fn.rows.items ++ rows_before l.self.cell l.self.slots shown l.stops l.completed l.firsts l.log l.place
