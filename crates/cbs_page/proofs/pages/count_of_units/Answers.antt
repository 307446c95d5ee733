use Rattle.std.proofs.Common.{arith}
use Rattle.cbs_page.specs.declared.coding.Alphabet.TheVariants.{Ucs2}
use Rattle.cbs_page.proofs.CodeCuts.{counted-more, counted-end}
use Rattle.cbs_page.proofs.pages.count_of_units.Goals as goal

pub loop-rest-preserved : goal.loop-rest-preserved
loop-rest-preserved c = record {
  few = omega (arith, c.loop-rest.invariant.few, c.split_at.ensures.back_len, c.loop-rest-test.true);
  made = λ text is. rw (c.split_at.ensures.back)
      (counted-more Ucs2 text c.loop-rest.rest.now c.loop-rest.pages (c.loop-rest.invariant.made text is)
      c.loop-rest-test.true);
}

pub returns : goal.returns
returns c = λ text some is.
    counted-end Ucs2 text c.loop-rest.rest.now c.loop-rest.pages some (c.loop-rest.invariant.made text is)
    c.loop-rest-test.false
