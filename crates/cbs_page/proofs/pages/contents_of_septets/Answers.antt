use Rattle.std.proofs.Common.{ℕ, ◌<◌, ◌∙◌, List, ap, subst, take}
use Rattle.std.proofs.lemmas.List.Elements.{All-drop}
use Rattle.cbs_page.specs.declared.coding.Alphabet.TheVariants.{Gsm}
use Rattle.cbs_page.specs.PagingSteps.{page_end}
use Rattle.cbs_page.specs.Text.{IsContentOf}
use Rattle.cbs_page.proofs.CodeCuts.{closed-more, closed-end}
use Rattle.cbs_page.proofs.pages.contents_of_septets.Goals as goal

pub loop-rest-preserved : goal.loop-rest-preserved
loop-rest-preserved c =
    let rest = c.loop-rest.rest.now in
    let here : IsContentOf Gsm (take (page_end Gsm rest) rest) c.content_of_septets.result =
    subst (λ (xs : List ℕ). IsContentOf Gsm xs c.content_of_septets.result)
    (c.split_at.ensures.front ∙ ap (λ n. take n c.loop-rest.rest.now) c.septets_of_page.ensures.value)
    c.content_of_septets.ensures in
    record {
      small = rw c.split_at.ensures.back
          (All-drop (λ septet. septet < 128) c.septets_of_page.result c.loop-rest.rest.now c.loop-rest.invariant.small);
      made = λ text is. rw (c.split_at.ensures.back, c.septets_of_page.ensures.value, c.in_ok-push.ensures.items)
          (closed-more Gsm text rest c.loop-rest.pages.items c.content_of_septets.result
          (c.loop-rest.invariant.made text is) c.loop-rest-test.true here);
    }

pub returns : goal.returns
returns c = λ text some is.
    rw c.in_ok-push-2.ensures.items
    (closed-end Gsm text c.loop-rest.rest.now c.loop-rest.pages.items c.content_of_septets-2.result some
    (c.loop-rest.invariant.made text is) c.loop-rest-test.false c.content_of_septets-2.ensures)
