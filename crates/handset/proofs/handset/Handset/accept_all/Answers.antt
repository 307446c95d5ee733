use Rattle.std.proofs.Common.{◌≡◌, ◌+◌, ◌<◌, List, ℕ, [], ◌∷◌, ◌++◌, ap, get_or, length, sym, subst, ◌∙◌, take, refl}
use Rattle.std.proofs.Common.{append_assoc}
use Rattle.std.proofs.lemmas.List.{take_all, take_more}
use Rattle.handset.specs.Keeping.{HasRead}
use Rattle.handset.proofs.handset.Handset.accept_all.Goals as goal

-- some blocks, the first of a list, and the next one of it
one_more : (before blocks : List (List ℕ)) (i : ℕ) → i < length blocks →
    (before ++ take i blocks) ++ get_or blocks i [] ∷ [] ≡ before ++ take (i + 1) blocks
one_more before blocks i within =
    append_assoc before (take i blocks) _ ∙ ap (λ l. before ++ l) (sym (take_more blocks i [] within))

pub loop-place-preserved : goal.loop-place-preserved
loop-place-preserved c before read =
    c.in_ok-place.ensures.read before (c.loop-place.invariant before read)

pub loop-place-preserved-then-passes_over : goal.loop-place-preserved-then-passes_over
loop-place-preserved-then-passes_over c before read =
    let place : ℕ = c.loop-place.place in
    let blocks : List (List ℕ) = c.args.blocks.now in
    subst (HasRead c.loop-place.self) (one_more before blocks place c.loop-place-test.true)
    (c.if-passes_over.ensures refl (before ++ take place blocks) (c.loop-place.invariant before read))

pub returns : goal.returns
returns c before read =
    let place : ℕ = c.loop-place.place in
    let blocks : List (List ℕ) = c.args.blocks.now in
    subst (HasRead c.loop-place.self) (ap (λ l. before ++ l) (take_all place blocks c.loop-place-test.false))
    (c.loop-place.invariant before read)
