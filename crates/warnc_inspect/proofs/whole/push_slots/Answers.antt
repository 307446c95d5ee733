-- The slots are appended, and then the blocks that are no slot.
use Rattle.std.proofs.Common.{◌≡◌, ℕ, List, ◌++◌, ap, append_assoc, sym, take, ◌∙◌}
use Rattle.std.specs.List.{flat_map}
use Rattle.std.proofs.lemmas.Grind.{flat_map-append}
use Rattle.std.proofs.lemmas.List.{take_all}
use Rattle.handset.specs.Tape.{octets_of_blocks}
use Rattle.short_pages.specs.Slots.{completed, completed_slot}
use Rattle.short_pages.proofs.SlotLaws.{completed-one-by-one}
use Rattle.warnc_inspect.proofs.WholeLaws.{appended}
use Rattle.warnc_inspect.proofs.whole.push_slots.Goals as goal

pub returns : goal.returns
returns c =
    let slots : List (List (List ℕ)) = c.as_chunks.result.0.now in
    let rest : List (List ℕ) = c.as_chunks.result.1.now in
    let old : List ℕ = c.args.octets.now.items in
    let read : List (List ℕ) = flat_map completed_slot (take c.loop-slot.slot-index slots) in
    let whole : read ++ rest ≡ completed c.args.blocks.now =
    completed-one-by-one c.loop-slot.slot-index c.args.blocks.now slots rest
    (take_all c.loop-slot.slot-index slots c.loop-slot-test.false) c.as_chunks.ensures.front c.as_chunks.ensures.back in
    let items : c.loop-slot.octets.items ++ c.as_flattened-2.result.now ≡ old ++ octets_of_blocks
    (completed c.args.blocks.now) =
    ap (λ (xs : List ℕ). xs ++ c.as_flattened-2.result.now) c.loop-slot.invariant
    ∙ ap (λ (xs : List ℕ). (old ++ octets_of_blocks read) ++ xs) c.as_flattened-2.ensures.value
    ∙ append_assoc old (octets_of_blocks read) (octets_of_blocks rest)
    ∙ ap (λ (xs : List ℕ). old ++ xs) (sym (flat_map-append (λ (block : List ℕ). block) read rest))
    ∙ ap (λ (xs : List (List ℕ)). old ++ octets_of_blocks xs) whole in
    appended c.extend_from_slice-2.result _ _ _ _ c.extend_from_slice-2.ensures.items items
