use Rattle.std.proofs.Common.{◌≡◌, ℕ, ◌+◌, ◌<◌, Result, Ok, Err, List, [], ◌++◌, ap, append-nil}
use Rattle.std.proofs.Common.{append_assoc, arith}
use Rattle.std.proofs.Common.{drop, get_or, length, suc, sym, take, ◌∙◌}
use Rattle.std.specs.Prelude.{OnOk}
use Rattle.std.specs.Result.{IsOk}
use Rattle.std.proofs.Math.Seq.{drop-cons}
use Rattle.std.proofs.lemmas.List.{drop_all, take_rest}
use Rattle.handset.specs.Reception.{page_octets}
use Rattle.short_pages.proofs.slot.octets_of.Goals as goal

-- what is so after a success
fits : {T E P : Type 0} (r : Result T E) → IsOk r → OnOk r P → P
fits (Ok x) is on = on
fits (Err e) is on = cc

-- a block of 23 octets is its type and 22 more
block_rest : (block : List ℕ) → length block ≡ 23 → take 22 (drop 1 block) ≡ drop 1 block
block_rest block whole = rw whole at (take_rest block 1)

-- the octets of the next block and those after it
one_more : (blocks : List (List ℕ)) (i : ℕ) → i < length blocks
    → page_octets (drop i blocks) ≡ drop 1 (get_or blocks i []) ++ page_octets (drop (i + 1) blocks)
one_more blocks i within =
    let next : i + 1 ≡ suc i = omega arith in
    rw next (ap page_octets (drop-cons blocks i [] within))

pub loop-block-preserved : goal.loop-block-preserved
loop-block-preserved c =
    let i : ℕ = c.loop-block.block-index in
    let blocks : List (List ℕ) = c.args.blocks.now in
    let room = c.try_extend_from_slice.ensures.variant.1 (omega arith) in
    let items = fits c.try_extend_from_slice.result room c.try_extend_from_slice.ensures.ok in
    let long = fits c.try_extend_from_slice.result room c.try_extend_from_slice.ensures.len in (
      ap (λ octets. octets ++ page_octets (drop (i + 1) blocks))
          (items ∙ ap (λ octets. c.loop-block.octets.items ++ octets) (block_rest (get_or blocks i [])
          (c.told-blocks i c.loop-block-test.true)))
          ∙ append_assoc c.loop-block.octets.items (drop 1 (get_or blocks i [])) (page_octets (drop (i + 1) blocks))
          ∙ ap (λ octets. c.loop-block.octets.items ++ octets) (sym (one_more blocks i c.loop-block-test.true))
          ∙ c.loop-block.invariant.0,
      omega (arith, long, c.loop-block.invariant.1),
    )

pub returns-clause-octets : goal.returns-clause-octets
returns-clause-octets c =
    let octets : List ℕ = c.loop-block.octets.items in
    let none : drop c.loop-block.block-index c.args.blocks.now ≡ [] =
    drop_all c.loop-block.block-index c.args.blocks.now c.loop-block-test.false in
    sym (append-nil octets) ∙ ap (λ blocks. octets ++ page_octets blocks) (sym none) ∙ c.loop-block.invariant.0

pub returns-clause-long : goal.returns-clause-long
returns-clause-long c =
    omega (arith, c.loop-block.invariant.1, c.loop-block-test.false, c.loop-block.auto.block-index-end)
