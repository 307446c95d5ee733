-- Whole tapes are tapes: a completed slot has four blocks of 23 octets.
use Rattle.std.proofs.Common.{◌≡◌, ℕ, ◌≤◌, Option, Some, None, zero, suc, List, [], ◌∷◌, ◌++◌, length, map}
use Rattle.std.proofs.Common.{take, drop, refl, ap, subst, sym, arith, ◌∙◌}
use Rattle.std.specs.Option.{option_map_or}
use Rattle.std.proofs.lemmas.List.{length-append, length-drop, length-take}
use Rattle.cbch_blocks.specs.Blocks.{blocks_of_page}
use Rattle.handset.specs.Recording.{TapeRecording, AreJoinedRecordings, AreRecordings, HoldsRecording}
use Rattle.handset.specs.Recording.{reading_of_recording}
use Rattle.handset.specs.Tape.{AreSlots, TapeReading, AreTapes, max_slots}
use Rattle.handset.specs.Laws.{MadeAreRecordings, RecordingsAreOne, RecordingsAreRead}
use Rattle.short_pages.specs.Slots.{completed, completed_recording, completed_slot, reading_on_air, short_page}
use Rattle.short_pages.specs.WholePage.{whole_page}
use Rattle.short_pages.proofs.PageLaws.{length-whole_page}
use Rattle.short_pages.proofs.ReadLaws.{AreBlocks, came}
use Rattle.warnc_inspect.specs.WholeOutput.{WholeTapesHold, WholeTapesShow, whole_tape}
use Rattle.warnc_inspect.specs.WholeOutput.{whole_tapes}

-- four blocks of 23 octets
abbrev IsSlot : List (List ℕ) → Type 0
IsSlot slot = (length slot ≡ 4) × AreBlocks slot

quarter : (page : List ℕ) (n : ℕ) → length page ≡ 88 → n ≤ 66 → length (take 22 (drop n page)) ≡ 22
quarter page n whole within = omega (arith, whole, within, length-take 22 (drop n page), length-drop n page)

-- the blocks of a page
blocks_are_slot : (page : List ℕ) → length page ≡ 88 → IsSlot (blocks_of_page page)
blocks_are_slot page whole = (
  refl,
  (
    omega (arith, quarter page 0 whole (omega arith)),
    (
      omega (arith, quarter page 22 whole (omega arith)),
      (
        omega (arith, quarter page 44 whole (omega arith)),
        (omega (arith, quarter page 66 whole (omega arith)), tt),
      ),
    ),
  ),
)

slot_by : (slot : List (List ℕ)) (page : Option (List ℕ)) → short_page slot ≡ page → IsSlot slot
    → IsSlot (option_map_or (λ octets. blocks_of_page (whole_page octets)) page slot)
slot_by slot None none is = is
slot_by slot (Some octets) some is =
    let part = came slot octets is.1 some in
    blocks_are_slot (whole_page octets) (length-whole_page octets part.0 part.1)

-- a completed slot
slot_is_slot : (slot : List (List ℕ)) → IsSlot slot → IsSlot (completed_slot slot)
slot_is_slot slot is = slot_by slot (short_page slot) refl is

joined : (front rest : List (List ℕ)) → AreBlocks front → AreBlocks rest → AreBlocks (front ++ rest)
joined [] rest all more = more
joined (block ∷ front) rest all more = (all.0, joined front rest all.1 more)

-- completed slots
slots_are_slots : (slots : ℕ) (blocks : List (List ℕ)) → AreSlots slots blocks → AreSlots slots (completed blocks)
slots_are_slots zero [] are = are
slots_are_slots zero (a ∷ blocks) are = absurd (omega (arith, are.four))
slots_are_slots (suc n) [] are = absurd (omega (arith, are.four))
slots_are_slots (suc n) (a ∷ []) are = absurd (omega (arith, are.four))
slots_are_slots (suc n) (a ∷ b ∷ []) are = absurd (omega (arith, are.four))
slots_are_slots (suc n) (a ∷ b ∷ c ∷ []) are = absurd (omega (arith, are.four))
slots_are_slots (suc n) (a ∷ b ∷ c ∷ d ∷ rest) are =
    let slot : List (List ℕ) = a ∷ b ∷ c ∷ d ∷ [] in
    let one : IsSlot (completed_slot slot) =
    slot_is_slot slot
    (refl, (are.each.0, (are.each.1.0, (are.each.1.1.0, (are.each.1.1.1.0, tt))))) in
    let more : AreSlots n (completed rest) =
    slots_are_slots n rest (record { four = omega (arith, are.four); each = are.each.1.1.1.1 }) in
    record {
      four = omega (arith, one.0, more.four, length-append (completed_slot slot) (completed rest));
      each = joined (completed_slot slot) (completed rest) one.1 more.each;
    }

-- the whole tape of a recording holds it, completed
holds_whole : MadeAreRecordings → (octets : List ℕ) (r : TapeRecording) → HoldsRecording octets r
    → HoldsRecording (whole_tape r) (completed_recording r)
holds_whole made octets r holds =
    made r.cell r.slots (completed r.blocks)
    (subst (λ (n : ℕ). n ≤ max_slots) (sym holds.slots_are) holds.few)
    (slots_are_slots r.slots r.blocks (subst (λ (n : ℕ). AreSlots n r.blocks) (sym holds.slots_are) holds.slots))

all_hold : MadeAreRecordings → (octets : List ℕ) (recordings : List TapeRecording)
    → AreJoinedRecordings octets recordings
    → AreJoinedRecordings (whole_tapes recordings) (map completed_recording recordings)
all_hold made octets [] none = refl
all_hold made octets (r ∷ rest) (tape, after, split, holds, more) = (
  whole_tape r,
  whole_tapes rest,
  refl,
  holds_whole made tape r holds,
  all_hold made after rest more,
)

length-completed : (recordings : List TapeRecording)
    → length (map completed_recording recordings) ≡ length recordings
length-completed [] = refl
length-completed (r ∷ rest) = ap (λ (n : ℕ). suc n) (length-completed rest)

hold_of : MadeAreRecordings → (input output : List ℕ) (recordings : List TapeRecording) → AreRecordings input recordings
    → output ≡ whole_tapes recordings
    → AreRecordings output (map completed_recording recordings)
hold_of made input output recordings are written =
    subst (λ (octets : List ℕ). AreRecordings octets (map completed_recording recordings)) (sym written)
    (record {
      joined = all_hold made input recordings are.joined;
      few = omega (arith, are.few, length-completed recordings);
    })

-- whole tapes hold what the tapes hold, completed
pub whole_tapes_hold : MadeAreRecordings → RecordingsAreOne → WholeTapesHold
whole_tapes_hold made one input output recordings is are =
    hold_of made input output recordings are
    (is.written ∙ ap whole_tapes (one input is.recordings recordings is.tapes are))

read_whole : (recordings : List TapeRecording)
    → map reading_of_recording (map completed_recording recordings) ≡ map reading_on_air recordings
read_whole [] = refl
read_whole (r ∷ rest) = ap (λ (readings : List TapeReading). reading_on_air r ∷ readings) (read_whole rest)

-- so they show what the tapes show by all their pages
pub whole_tapes_show : MadeAreRecordings → RecordingsAreOne → RecordingsAreRead → WholeTapesShow
whole_tapes_show made one read input output readings is are =
    subst (λ (shown : List TapeReading). AreTapes output shown) (read_whole are.recordings ∙ sym are.read)
    (read output (map completed_recording are.recordings)
    (whole_tapes_hold made one input output are.recordings is are.tapes))
