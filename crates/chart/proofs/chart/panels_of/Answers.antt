use Rattle.std.proofs.Common.{◌≡◌, rules}
use native.Mathlib.Omega.{arith}
use Rattle.report.specs.declared.fault.ReportFault.TheVariants as cells
use Rattle.chart.proofs.SectionLaws.{cells_differ, panel_added}
use Rattle.chart.proofs.chart.panels_of.Goals as goal

pub loop-place-preserved : goal.loop-place-preserved
loop-place-preserved c =
    panel_added c.args.view c.args.orders.now c.args.records.now c.args.readings.now c.loop-place.place
    c.index-records-place.result c.index-readings-place.result c.loop-place.panels.items
    c.add_if_wanted.new.panels.items _ c.loop-place-test.true
    (omega (arith, c.loop-place-test.true, c.requires)) c.index-records-place.is c.index-readings-place.is
    c.in_ok-add_if_wanted.ensures.panel c.loop-place.invariant

pub returns-in_err-add_if_wanted-clause-cells : goal.returns-in_err-add_if_wanted-clause-cells
returns-in_err-add_if_wanted-clause-cells c is =
    let fault : c.in_err-add_if_wanted.field-0.0 ≡ cells.Cells = search (rules, c.from_residual.ensures, is) in
    cells_differ c.args.records.now c.args.readings.now c.loop-place.place c.index-records-place.result
    c.index-readings-place.result c.loop-place-test.true (omega (arith, c.loop-place-test.true, c.requires))
    c.index-records-place.is c.index-readings-place.is (c.in_err-add_if_wanted.ensures.cells fault)
