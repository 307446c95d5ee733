-- Steps over an input of tapes: whole tapes are tapes as a handset reads them, one more of them, and what follows them.
use Rattle.std.proofs.Common.{◌≡◌, ℕ, ◌+◌, ◌*◌, ◌<◌, ◌≤◌, List, [], ◌∷◌, ◌++◌, length, map, take, drop, refl, sym}
use Rattle.std.proofs.Common.{ap, ◌∙◌}
use Rattle.std.proofs.Common.{subst, arith, append_assoc, append-nil}
use Rattle.std.specs.List.{flat_map, AllByRecursion}
use Rattle.std.specs.Simd.{first_chunks}
use Rattle.std.proofs.lemmas.Grind.{flat_map-append}
use Rattle.std.proofs.lemmas.List.{length-append, length-map, length-take-le, length_push, take-append-drop}
use Rattle.handset.specs.Reception.{shown_in}
use Rattle.handset.specs.Tape.{AreJoined, IsCut, IsLong, IsOversized, IsShort, IsTape, TapeReading}
use Rattle.handset.specs.Tape.{cell_in, octets_of_blocks, slots_in}
use Rattle.gsmtap.specs.Capture.{AreWhole, IsWhole, Tape, blocks_in_slot, capture, file_header, octets_of_tape}
use Rattle.gsmtap.specs.Capture.{octets_of_tapes, packets_of_slots, packets_of_tapes}
use Rattle.gsmtap.specs.CaptureSteps.{BeginsWithTape, PushesTape}
use Rattle.gsmtap.specs.declared.capture.Settings.{Settings}
use Rattle.gsmtap.proofs.Chunks.{chunks_each, chunks_joined, chunks_long, each-append}

-- so many whole tapes stand before what is left, and their capture is written
pub record ArePushed (settings : Settings) (input left : List ℕ) (number : ℕ) (output : List ℕ) : Type 0 where
  pub tapes : List Tape
  pub whole : AreWhole tapes
  pub many : length tapes ≡ number
  pub split : input ≡ octets_of_tapes tapes ++ left
  pub written : output ≡ capture settings tapes

-- the blocks of slots
abbrev pub blocks_of_slots : List (List ℕ) → List (List ℕ)
blocks_of_slots slots = flat_map blocks_in_slot slots

-- the octets of the blocks of slots are those of the slots
pub blocks_joined : (slots : List (List ℕ)) → AllByRecursion (λ slot. length slot ≡ 92) slots →
    octets_of_blocks (blocks_of_slots slots) ≡ flat_map (λ slot. slot) slots
blocks_joined [] each = refl
blocks_joined (slot ∷ slots) each =
    flat_map-append (λ block. block) (blocks_in_slot slot) (blocks_of_slots slots)
    ∙ ap (λ octets. octets ++ octets_of_blocks (blocks_of_slots slots)) (chunks_joined 23 4 slot each.0)
    ∙ ap (λ octets. slot ++ octets) (blocks_joined slots each.1)

blocks_long : (slots : List (List ℕ)) → length (blocks_of_slots slots) ≡ 4 * length slots
blocks_long [] = refl
blocks_long (slot ∷ slots) =
    let rest : length (blocks_of_slots slots) ≡ 4 * length slots = blocks_long slots in
    omega (arith, length-append (blocks_in_slot slot) (blocks_of_slots slots), chunks_long 23 4 slot, rest)

blocks_each : (slots : List (List ℕ)) → AllByRecursion (λ slot. length slot ≡ 92) slots →
    AllByRecursion (λ block. length block ≡ 23) (blocks_of_slots slots)
blocks_each [] each = tt
blocks_each (slot ∷ slots) each =
    each-append (λ block. length block ≡ 23) (blocks_in_slot slot) (blocks_of_slots slots)
    (chunks_each 23 4 slot each.0) (blocks_each slots each.1)

-- what a handset reads of a tape
abbrev pub reading_of_tape : Tape → TapeReading
reading_of_tape tape = record {
  cell = cell_in tape.header;
  slots = slots_in tape.header;
  shown = shown_in (blocks_of_slots tape.slots);
}

whole_is_tape : (tape : Tape) → IsWhole tape → IsTape (octets_of_tape tape) (reading_of_tape tape)
whole_is_tape tape whole = record {
  header = tape.header;
  blocks = blocks_of_slots tape.slots;
  joined = ap (λ octets. tape.header ++ octets) (sym (blocks_joined tape.slots whole.each));
  eight = whole.eight;
  few = whole.few;
  slots = record {
    four = blocks_long tape.slots ∙ ap (λ n. 4 * n) whole.many;
    each = blocks_each tape.slots whole.each;
  };
  reading_is = refl;
}

whole_are_joined : (tapes : List Tape) → AreWhole tapes →
    AreJoined (octets_of_tapes tapes) (map reading_of_tape tapes)
whole_are_joined [] whole = refl
whole_are_joined (tape ∷ tapes) whole =
    (octets_of_tape tape, octets_of_tapes tapes, refl, whole_is_tape tape whole.0, whole_are_joined tapes whole.1)

-- an input of at least a header and the slots that it says begins with a tape
pub begins_with_tape : (left header after body rest : List ℕ) (slots : ℕ) → 8 ≤ length left → header ≡ take 8 left →
    after ≡ drop 8 left → slots ≡ slots_in header → slots ≤ 65535 → 92 * slots ≤ length after →
    body ≡ take (92 * slots) after → rest ≡ drop (92 * slots) after →
    BeginsWithTape left (record { header = header; slots = first_chunks 92 slots body }) rest
begins_with_tape left header after body rest slots eight header_is after_is slots_is few long body_is rest_is =
    let whole : length body ≡ 92 * slots = ap length body_is ∙ length-take-le (92 * slots) after long in
    record {
      whole = record {
        eight = ap length header_is ∙ length-take-le 8 left eight;
        few = subst (λ n. n ≤ 65535) slots_is few;
        many = chunks_long 92 slots body ∙ slots_is;
        each = chunks_each 92 slots body whole;
      };
      split =
          sym (take-append-drop 8 left) ∙ ap (λ octets. take 8 left ++ octets) (sym after_is)
          ∙ ap (λ octets. octets ++ after) (sym header_is)
          ∙ ap (λ octets. header ++ octets) (sym (take-append-drop (92 * slots) after))
          ∙ ap (λ octets. header ++ (octets ++ drop (92 * slots) after)) (sym body_is)
          ∙ ap (λ octets. header ++ (body ++ octets)) (sym rest_is)
          ∙ ap (λ octets. header ++ (octets ++ rest)) (sym (chunks_joined 92 slots body whole))
          ∙ sym (append_assoc header (flat_map (λ slot. slot) (first_chunks 92 slots body)) rest);
    }

-- the packets of one tape more
packets_more : (settings : Settings) (number : ℕ) (tapes : List Tape) (tape : Tape) →
    packets_of_tapes settings number (tapes ++ tape ∷ [])
    ≡ packets_of_tapes settings number tapes
    ++ packets_of_slots settings (number + length tapes) (cell_in tape.header) 0 tape.slots
packets_more settings number [] tape =
    let here : number + length {A = Tape} [] ≡ number = omega arith in
    append-nil (packets_of_slots settings number (cell_in tape.header) 0 tape.slots)
    ∙ ap (λ n. packets_of_slots settings n (cell_in tape.header) 0 tape.slots) (sym here)
packets_more settings number (first ∷ tapes) tape =
    let front : List ℕ = packets_of_slots settings number (cell_in first.header) 0 first.slots in
    let next : number + 1 + length tapes ≡ number + length (first ∷ tapes) = omega arith in
    ap (λ octets. front ++ octets) (packets_more settings (number + 1) tapes tape)
    ∙ sym (append_assoc front (packets_of_tapes settings (number + 1) tapes)
    (packets_of_slots settings (number + 1 + length tapes) (cell_in tape.header) 0 tape.slots))
    ∙ ap (λ n. (front ++ packets_of_tapes settings (number + 1) tapes)
    ++ packets_of_slots settings n (cell_in tape.header) 0 tape.slots) next

whole-more : (tapes : List Tape) (tape : Tape) → AreWhole tapes → IsWhole tape → AreWhole (tapes ++ tape ∷ [])
whole-more [] tape whole one = (one, tt)
whole-more (first ∷ tapes) tape whole one = (whole.0, whole-more tapes tape whole.1 one)

-- one tape more is pushed
pub pushed_more : (settings : Settings) (input left rest : List ℕ) (number : ℕ) (before after : List ℕ) →
    ArePushed settings input left number before → PushesTape settings number left rest before after →
    ArePushed settings input rest (number + 1) after
pushed_more settings input left rest number before after sofar next =
    let tapes : List Tape = sofar.tapes in
    let tape : Tape = next.tape in
    record {
      tapes = tapes ++ tape ∷ [];
      whole = whole-more tapes tape sofar.whole next.begins.whole;
      many = length_push tapes tape ∙ ap (λ n. n + 1) sofar.many;
      split =
          sofar.split ∙ ap (λ octets. octets_of_tapes tapes ++ octets) next.begins.split
          ∙ sym (append_assoc (octets_of_tapes tapes) (octets_of_tape tape) rest)
          ∙ ap (λ octets. (octets_of_tapes tapes ++ octets) ++ rest) (sym (append-nil (octets_of_tape tape)))
          ∙ ap (λ octets. octets ++ rest) (sym (flat_map-append octets_of_tape tapes (tape ∷ [])));
      written =
          next.pushed
          ∙ ap (λ octets. octets ++ packets_of_slots settings number (cell_in tape.header) 0 tape.slots) sofar.written
          ∙ append_assoc file_header (packets_of_tapes settings 0 tapes)
          (packets_of_slots settings number (cell_in tape.header) 0 tape.slots)
          ∙ ap (λ n. file_header ++ (packets_of_tapes settings 0 tapes
          ++ packets_of_slots settings n (cell_in tape.header) 0 tape.slots))
          (let start : number ≡ 0 + length tapes = omega (arith, sofar.many) in start)
          ∙ ap (λ octets. file_header ++ octets) (sym (packets_more settings 0 tapes tape));
    }

-- the end comes inside the next tape
pub is_short : (settings : Settings) (input left : List ℕ) (number : ℕ) (output : List ℕ) →
    ArePushed settings input left number output → number < 64 → IsCut left → IsShort input
is_short settings input left number output sofar few cut = record {
  readings = map reading_of_tape sofar.tapes;
  rest = left;
  begins = record {
    front = octets_of_tapes sofar.tapes;
    split = sofar.split;
    joined = whole_are_joined sofar.tapes sofar.whole;
  };
  few = omega (arith, length-map sofar.tapes reading_of_tape, sofar.many, few);
  cut = cut;
}

-- the header of the next tape says too many slots
pub is_long : (settings : Settings) (input left : List ℕ) (number : ℕ) (output : List ℕ) →
    ArePushed settings input left number output → number < 64 → IsOversized left → IsLong input
is_long settings input left number output sofar few oversized =
    let long : length (map reading_of_tape sofar.tapes) ≡ number =
    length-map sofar.tapes reading_of_tape ∙ sofar.many in
    record {
      readings = map reading_of_tape sofar.tapes;
      rest = left;
      begins = record {
        front = octets_of_tapes sofar.tapes;
        split = sofar.split;
        joined = whole_are_joined sofar.tapes sofar.whole;
      };
      few = omega (arith, long, few);
      oversized = λ _. oversized;
      more = λ last. absurd (omega (arith, long, last, few));
    }

-- more octets follow the last tape that an input may have
pub goes_on : (settings : Settings) (input left : List ℕ) (number : ℕ) (output : List ℕ) →
    ArePushed settings input left number output → number ≡ 64 → 0 < length left → IsLong input
goes_on settings input left number output sofar all some =
    let long : length (map reading_of_tape sofar.tapes) ≡ number =
    length-map sofar.tapes reading_of_tape ∙ sofar.many in
    record {
      readings = map reading_of_tape sofar.tapes;
      rest = left;
      begins = record {
        front = octets_of_tapes sofar.tapes;
        split = sofar.split;
        joined = whole_are_joined sofar.tapes sofar.whole;
      };
      few = omega (arith, long, all);
      oversized = λ fewer. absurd (omega (arith, long, all, fewer));
      more = λ _. some;
    }
