use Rattle.std.proofs.Common.{◌≡◌, List, ℕ, ◌++◌, ap, take}
use Rattle.std.proofs.Common.{◌∙◌}
use Rattle.std.specs.List.{flat_map}
use Rattle.std.proofs.lemmas.List.{take_all}
use Rattle.handset.specs.Reception.{shown_in}
use Rattle.short_pages.specs.Slots.{completed, completed_slot}
use Rattle.short_pages.proofs.SlotLaws.{completed-one-by-one}
use Rattle.short_pages.proofs.phone.show.Goals as goal

pub returns : goal.returns
returns c =
    let slots : List (List (List ℕ)) = c.as_chunks.result.0.now in
    let rest : List (List ℕ) = c.as_chunks.result.1.now in
    let read : List (List ℕ) = flat_map completed_slot (take c.loop-slot.slot-index slots) in
    let whole : read ++ rest ≡ completed c.args.blocks.now =
    completed-one-by-one c.loop-slot.slot-index c.args.blocks.now slots rest
    (take_all c.loop-slot.slot-index slots c.loop-slot-test.false) c.as_chunks.ensures.front c.as_chunks.ensures.back in
    c.into_shown.ensures (read ++ rest) (c.in_ok-feed_all-2.ensures read c.loop-slot.invariant) ∙ ap shown_in whole
