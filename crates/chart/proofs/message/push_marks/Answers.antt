use Rattle.std.proofs.Common.{◌≡◌, ◌∙◌, true, false, length, rules, sym}
use native.Mathlib.Omega.{arith}
use Rattle.bsc_table.specs.Book.{air_pairs}
use Rattle.chart.specs.Kept.{accepted_kept}
use Rattle.chart.specs.Message.{is_marked, marked_to}
use Rattle.chart.proofs.StrokeLaws.{slot_passed, stroke_drawn}
use Rattle.chart.proofs.message.push_marks.Goals as goal

pub loop-slot-preserved-then-not-is_marked : goal.loop-slot-preserved-then-not-is_marked
loop-slot-preserved-then-not-is_marked c =
    let m = (accepted_kept c.in-Some.kept).message in
    let air = air_pairs c.args.air.now in
    let is : c.is_marked.result ≡ false = search (rules, c.if-not-is_marked.true) in
    record {
      behind = omega (arith, c.loop-slot.invariant.behind);
      drawn = slot_passed (is_marked air m) c.loop-slot.slot (marked_to c.args.stretch (length c.args.air.now) m)
          c.loop-slot.place c.loop-slot.is_down c.loop-slot.page _ (search rules) (sym c.is_marked.ensures ∙ is)
          c.loop-slot.invariant.drawn;
    }

pub loop-slot-preserved : goal.loop-slot-preserved
loop-slot-preserved c =
    let m = (accepted_kept c.in-Some.kept).message in
    let air = air_pairs c.args.air.now in
    let is : c.is_marked.result ≡ true = search (rules, c.if-not-is_marked.false) in
    record {
      behind = omega arith;
      drawn = stroke_drawn (is_marked air m) c.loop-slot.slot (marked_to c.args.stretch (length c.args.air.now) m)
          c.loop-slot.place c.loop-slot.is_down c.loop-slot.page c.push_stroke.new.page _ (search rules)
          (sym c.is_marked.ensures ∙ is) c.in_ok-push_stroke.ensures c.loop-slot.invariant.drawn;
    }
