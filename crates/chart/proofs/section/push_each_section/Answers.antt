use Rattle.std.proofs.Common.{length}
use Rattle.chart.specs.Panels.{section_at}
use Rattle.chart.proofs.RangeLaws.{drawn_on}
use Rattle.chart.proofs.section.push_each_section.Goals as goal

pub loop-place-preserved : goal.loop-place-preserved
loop-place-preserved c =
    drawn_on (section_at c.args.wording c.args.all.now) c.loop-place.place (length c.args.all.now) c.loop-place.page
    c.push_section.new.page _ c.loop-place-test.true c.in_ok-push_section.ensures c.loop-place.invariant
