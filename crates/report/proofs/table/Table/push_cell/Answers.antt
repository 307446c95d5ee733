use Rattle.std.proofs.Common.{◌∙◌, ◌++◌, ℕ, List, ap, sym, subst, arith, append-nil}
use Rattle.report.specs.ReportText.{row_line}
use Rattle.report.specs.TextSteps.{IsTable}
use Rattle.report.proofs.ListLaws.{flat_map-next}
use Rattle.report.proofs.table.Table.push_cell.Goals as goal

pub loop-count-init : goal.loop-count-init
loop-count-init c = record {
  some = omega arith;
  within = omega (arith, c.requires);
  lines =
      λ octets is.
      subst (λ (xs : List ℕ). IsTable c.push.new.self xs)
      (ap (λ (xs : List ℕ). xs ++ row_line c.index-rows-0-3.result) (sym (append-nil octets))
      ∙ flat_map-next row_line c.args.rows.now 0 c.index-rows-0-3.result octets (omega (arith, c.requires))
      c.index-rows-0-3.is)
      (c.in_ok-push.ensures octets is);
}

pub loop-count-preserved : goal.loop-count-preserved
loop-count-preserved c = record {
  some = omega arith;
  within = omega (arith, c.loop-count-test.true);
  lines =
      λ octets is.
      subst (λ (xs : List ℕ). IsTable c.push-in-loop-count.new.self xs)
      (flat_map-next row_line c.args.rows.now c.loop-count.count c.index-rows-count-in-loop-count.result octets
      (omega (arith, c.loop-count-test.true)) c.index-rows-count-in-loop-count.is)
      (c.in_ok-push-2.ensures _ (c.loop-count.invariant.lines octets is));
}
