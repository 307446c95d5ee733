use Rattle.std.proofs.Common.{◌∙◌, List, take, sym, subst}
use Rattle.std.proofs.lemmas.List.{take_more}
use Rattle.bsc_table.specs.declared.entry.SlotRange.{SlotRange}
use Rattle.order_desk.specs.SettleSteps.{AreTimes, has_slot}
use Rattle.order_desk.proofs.settle.slots.count_ranges.Goals as goal

pub loop-range-preserved : goal.loop-range-preserved
loop-range-preserved c = (
  c.count_range.ensures.places ∙ c.loop-range.invariant.0,
  subst (λ (ranges : List SlotRange). AreTimes has_slot ranges c.count_range.new.times)
      (sym (take_more c.args.ranges.now c.loop-range.range-index _ c.loop-range-test.true))
      (c.count_range.ensures.counted (take c.loop-range.range-index c.args.ranges.now) c.loop-range.invariant.1),
)
