use Rattle.std.proofs.Common.{◌+◌}
use Rattle.chart.specs.Time.{tick_within}
use Rattle.chart.specs.declared.time.TheConstants.{MOST_TICKS}
use Rattle.chart.proofs.RangeLaws.{drawn_on}
use Rattle.chart.proofs.time.push_ticks_by.Goals as goal

pub loop-number-preserved : goal.loop-number-preserved
loop-number-preserved c =
    drawn_on (tick_within c.args.start c.args.stretch c.args.step) c.loop-number.number
    (c.args.first + MOST_TICKS) c.loop-number.page
    c.push_tick_within.new.page _ c.loop-number-test.true c.in_ok-push_tick_within.ensures c.loop-number.invariant
