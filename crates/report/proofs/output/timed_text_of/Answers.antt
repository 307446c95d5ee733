use Rattle.std.proofs.Common.{ℕ, List, arith, subst}
use Rattle.report.specs.ReportText.{timed_heading, timed_line}
use Rattle.report.specs.TextSteps.{IsTable}
use Rattle.report.proofs.ListLaws.{flat_map-next}
use Rattle.report.proofs.output.timed_text_of.Goals as goal

pub loop-row-preserved : goal.loop-row-preserved
loop-row-preserved c =
    subst (λ (xs : List ℕ). IsTable c.push_timed.new.self xs)
    (flat_map-next (timed_line c.args.columns c.args.start c.args.orders.now) c.args.rows.now c.loop-row.row-index
    c.row-item.result (timed_heading c.args.columns c.args.headed) (omega arith) c.row-item.is)
    (c.in_ok-push_timed.ensures _ c.loop-row.invariant)
