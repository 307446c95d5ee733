use Rattle.std.proofs.Common.{◌≡◌, cond, length, rules}
use native.Mathlib.Omega.{arith}
use Rattle.bsc_table.specs.Book.{air_pairs}
use Rattle.chart.specs.Kept.{accepted_kept}
use Rattle.chart.specs.Message.{is_marked, marked_to}
use Rattle.chart.proofs.CountLaws.{counted_on, counts_once}
use Rattle.chart.proofs.message.count_marks.Goals as goal

pub loop-slot-preserved : goal.loop-slot-preserved
loop-slot-preserved c =
    let m = (accepted_kept c.args.kept.now).message in
    let air = air_pairs c.args.air.now in
    let here : c.from-count.result ≡ cond (is_marked air m c.loop-slot.slot) 1 0 = search rules in
    let once = counts_once (is_marked air m c.loop-slot.slot) c.from-count.result here in
    let so_far = c.loop-slot.invariant in
    record {
      few = omega (arith, so_far.few, once);
      counted = counted_on (is_marked air m) c.loop-slot.slot
          (marked_to c.args.stretch (length c.args.air.now) m) c.loop-slot.count c.from-count.result _ (search rules)
          here so_far.counted;
    }
