use Rattle.std.proofs.Common.{◌++◌, sym, ap, ◌∙◌, arith}
use Rattle.std.proofs.lemmas.List.{append-nil}
use Rattle.cbsp_wire.specs.Value.{content_of}
use Rattle.cbsp_link.specs.Value.{pages_in}
use Rattle.cbsp_link.specs.Element.{elements_in}
use Rattle.cbsp_link.proofs.Walks.{split_first, page-taken, page-passed, pages-ended, pages-none, one_more}
use Rattle.cbsp_link.proofs.elements.contents.Goals as goal

pub walk-preserved-in_ok-push-in-Ok : goal.walk-preserved-in_ok-push-in-Ok
walk-preserved-in_ok-push-in-Ok c =
    let taken = page-taken c.walk.left.now _ _ _ _ (split_first c.walk.left.now c.in-len1-up.len_at_least)
    c.in-Ok.ensures.taken c.if-number-eq-MESSAGE_CONTENT.true in
    rw (c.in_ok-push-in-Ok.ensures.items, c.content.ensures)
    (one_more c.walk.contents.items (content_of c.in-Ok.body.now) (pages_in (elements_in c.in-Ok.rest.now))
    (pages_in (elements_in c.args.octets.now)) (pages_in (elements_in c.walk.left.now)) taken c.walk.invariant)

pub walk-preserved : goal.walk-preserved
walk-preserved c =
    ap (λ ys. c.walk.contents.items ++ ys)
    (sym (page-passed c.walk.left.now _ _ _ _ (split_first c.walk.left.now c.in-len1-up.len_at_least)
    c.in-Ok.ensures.taken c.if-number-eq-MESSAGE_CONTENT.false)) ∙ c.walk.invariant

pub returns-in-Err : goal.returns-in-Err
returns-in-Err c =
    sym (append-nil c.walk.contents.items)
    ∙ ap (λ ys. c.walk.contents.items ++ ys)
    (sym (pages-ended c.walk.left.now _ _ _ (split_first c.walk.left.now c.in-len1-up.len_at_least)
    c.in-Err.ensures.fault)) ∙ c.walk.invariant

pub returns : goal.returns
returns c =
    sym (append-nil c.walk.contents.items)
    ∙ ap (λ ys. c.walk.contents.items ++ ys)
    (sym (pages-none c.walk.left.now (omega (arith, c.in_default.len_below)))) ∙ c.walk.invariant
