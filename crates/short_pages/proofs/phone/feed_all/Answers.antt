use Rattle.std.proofs.Common.{◌≡◌, ℕ, ◌+◌, ◌<◌, List, [], ◌∷◌, ◌++◌, ap, get_or, length, sym, subst, ◌∙◌, take}
use Rattle.std.proofs.Common.{append_assoc}
use Rattle.std.proofs.lemmas.List.{take_all, take_more}
use Rattle.handset.specs.Keeping.{HasRead}
use Rattle.short_pages.proofs.phone.feed_all.Goals as goal

-- some blocks, the first of a list, and the next one of it
one_more : (before blocks : List (List ℕ)) (i : ℕ) → i < length blocks →
    (before ++ take i blocks) ++ get_or blocks i [] ∷ [] ≡ before ++ take (i + 1) blocks
one_more before blocks i within =
    append_assoc before (take i blocks) _ ∙ ap (λ l. before ++ l) (sym (take_more blocks i [] within))

pub loop-block-preserved : goal.loop-block-preserved
loop-block-preserved c before read =
    let place : ℕ = c.loop-block.block-index in
    let blocks : List (List ℕ) = c.args.blocks.now in
    subst (HasRead c.feed.new.self) (one_more before blocks place c.loop-block-test.true)
    (c.in_ok-feed.ensures.read (before ++ take place blocks) (c.loop-block.invariant before read))

pub returns : goal.returns
returns c before read =
    let place : ℕ = c.loop-block.block-index in
    let blocks : List (List ℕ) = c.args.blocks.now in
    subst (HasRead c.loop-block.handset) (ap (λ l. before ++ l) (take_all place blocks c.loop-block-test.false))
    (c.loop-block.invariant before read)
