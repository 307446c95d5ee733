use Rattle.std.proofs.Common.{◌≡◌, ◌/◌, ◌++◌, List, ℕ, length, ap, sym, ◌∙◌, append-nil, arith}
use Rattle.std.specs.Simd.{first_chunks}
use Rattle.std.proofs.lemmas.List.{drop_all}
use Rattle.gsmtap.specs.Capture.{blocks_in_slot, packets_of_blocks, packets_of_slot}
use Rattle.gsmtap.proofs.capture.push_slot.Goals as goal

pub returns : goal.returns
unfolding packets_of_slot
returns c =
    let four : length c.args.octets.now / 23 ≡ 4 = omega arith in
    let blocks : c.as_chunks.result.0.now ≡ blocks_in_slot c.args.octets.now =
    c.as_chunks.ensures.front ∙ ap (λ k. first_chunks 23 k c.args.octets.now) four in
    sym (append-nil c.loop-block.output.items)
    ∙ ap (λ rest. c.loop-block.output.items
    ++ packets_of_blocks c.args.settings.start c.args.settings.channel c.args.tape c.args.cell c.args.slot
    c.loop-block.block rest)
    (sym (drop_all c.loop-block.block c.as_chunks.result.0.now (omega arith)))
    ∙ c.loop-block.invariant
    ∙ ap (λ (chunks : List (List ℕ)). c.args.output.now.items
    ++ packets_of_blocks c.args.settings.start c.args.settings.channel c.args.tape c.args.cell c.args.slot 0
    chunks) blocks
