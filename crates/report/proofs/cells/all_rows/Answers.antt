use Rattle.std.proofs.Common.{◌∙◌, ◌++◌, List, ap, arith}
use Rattle.handset.specs.Keeping.{messages_shown}
use Rattle.report.specs.declared.row.Row.{Row}
use Rattle.report.specs.Rows.{cell_rows}
use Rattle.report.proofs.StepLaws.{cells-more}
use Rattle.report.proofs.cells.all_rows.Goals as goal

pub loop-place-preserved : goal.loop-place-preserved
loop-place-preserved c =
    c.in_ok-push_cell.ensures
    ∙ ap (λ (rows : List Row). rows ++ cell_rows c.index-records-place.result
    (messages_shown c.index-readings-place.result.shown.items)) c.loop-place.invariant
    ∙ cells-more c.args.records.now c.args.readings.now c.loop-place.place c.index-records-place.result
    c.index-readings-place.result c.requires (omega arith) c.index-records-place.is c.index-readings-place.is
