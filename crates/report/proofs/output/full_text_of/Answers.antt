use Rattle.std.proofs.Common.{ℕ, List, arith, subst}
use Rattle.report.specs.ReportText.{full_heading, full_line}
use Rattle.report.specs.TextSteps.{IsTable}
use Rattle.report.proofs.ListLaws.{flat_map-next}
use Rattle.report.proofs.output.full_text_of.Goals as goal

pub loop-row-preserved : goal.loop-row-preserved
loop-row-preserved c =
    subst (λ (xs : List ℕ). IsTable c.push_full.new.self xs)
    (flat_map-next (full_line c.args.orders.now) c.args.rows.now c.loop-row.row-index c.row-item.result
    (full_heading c.args.headed) (omega arith) c.row-item.is)
    (c.in_ok-push_full.ensures _ c.loop-row.invariant)
