use Rattle.std.proofs.Common.{ℕ, List, subst, take}
use Rattle.cbs_page.specs.declared.coding.Alphabet.TheVariants.{Ucs2}
use Rattle.cbs_page.specs.PagingSteps.{page_end}
use Rattle.cbs_page.specs.Text.{IsContentOf}
use Rattle.cbs_page.proofs.CodeCuts.{closed-more, closed-end}
use Rattle.cbs_page.proofs.pages.contents_of_units.Goals as goal

pub loop-rest-preserved : goal.loop-rest-preserved
loop-rest-preserved c =
    let rest = c.loop-rest.rest.now in
    let here : IsContentOf Ucs2 (take (page_end Ucs2 rest) rest) c.content_of_units.result =
    subst (λ (xs : List ℕ). IsContentOf Ucs2 xs c.content_of_units.result)
    c.split_at.ensures.front
    c.content_of_units.ensures in
    record {
      made = λ text is. rw (c.split_at.ensures.back, c.in_ok-push.ensures.items)
          (closed-more Ucs2 text rest c.loop-rest.pages.items c.content_of_units.result
          (c.loop-rest.invariant.made text is) c.loop-rest-test.true here);
    }

pub returns : goal.returns
returns c = λ text some is.
    rw c.in_ok-push-2.ensures.items
    (closed-end Ucs2 text c.loop-rest.rest.now c.loop-rest.pages.items c.content_of_units-2.result some
    (c.loop-rest.invariant.made text is) c.loop-rest-test.false c.content_of_units-2.ensures)
