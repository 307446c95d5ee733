use Rattle.std.proofs.Common.{◌+◌, ◌-◌, ◌/◌, ◌∙◌, arith, sym}
use Rattle.std.proofs.lemmas.Bool.{false≢true}
use Rattle.bsc_table.proofs.Cell.TableByPair.{less_up_to, none_less_from}
use Rattle.bsc_table.proofs.table.gap_for.Goals as goal

pub loop-low-preserved-then-is_before : goal.loop-low-preserved-then-is_before
loop-low-preserved-then-is_before c =
    let inv = c.loop-low.invariant in
    record {
      ordered = omega (arith, c.loop-low-test.true);
      within = inv.within;
      before = λ k d lt. less_up_to c.args.pairs.now (c.args.id, c.args.serial) c.requires
          (c.loop-low.low + (c.loop-low.high - c.loop-low.low) / 2) _
          (omega (arith, c.loop-low-test.true, inv.within))
          (c.is_before.ensures.0 c.if-is_before.true) k d (omega (arith, lt));
      behind = inv.behind;
    }

pub loop-low-preserved : goal.loop-low-preserved
loop-low-preserved c =
    let inv = c.loop-low.invariant in
    record {
      ordered = omega (arith, c.loop-low-test.true);
      within = omega (arith, c.loop-low-test.true, inv.within);
      before = inv.before;
      behind = λ k d le inside. none_less_from c.args.pairs.now (c.args.id, c.args.serial) c.requires
          (c.loop-low.low + (c.loop-low.high - c.loop-low.low) / 2) _
          (omega (arith, c.loop-low-test.true, inv.within))
          (λ less. false≢true (sym c.if-is_before.false ∙ c.is_before.ensures.1 less)) k d le inside;
    }
