-- Each input is of one of the kinds: it is readable, short or long.
use Rattle.std.proofs.Common.{◌≡◌, ◌⊎◌, inl, inr, ℕ, ◌+◌, ◌*◌, ◌<◌, ◌≤◌, List, [], ◌∷◌, ◌++◌, length, take, drop, zero}
use Rattle.std.proofs.Common.{suc, refl, sym, ap, ◌∙◌, subst, arith, append_assoc, append-nil}
use Rattle.std.proofs.lemmas.Bool.{cases_lt}
use Rattle.std.proofs.lemmas.List.{length-drop, length-take-le, take-append-drop}
use Rattle.std.specs.Simd.{first_chunks}
use Rattle.handset.specs.Reception.{shown_in}
use Rattle.handset.specs.Tape.{TapeReading, IsTape, AreTapesWithin, BeginsWith, IsCut, IsLongWithin, IsOversized}
use Rattle.handset.specs.Tape.{IsShortWithin, slots_in, reading_from, max_slots, max_tapes}
use Rattle.handset.specs.Laws.{TapeHasKind, TapesHaveKind}
use Rattle.handset.proofs.TapeLaws.{slots-header, chunks_joined, chunks_long, chunks_each}

-- the tape that stands in front of an input that is long enough for it
record Front (input : List ℕ) : Type 0 where
  tape : List ℕ
  after : List ℕ
  reading : TapeReading
  split : input ≡ tape ++ after
  is : IsTape tape reading
  long : length after + (8 + 92 * slots_in input) ≡ length input

front_of : (input : List ℕ) → 8 ≤ length input → slots_in input ≤ max_slots → 8 + 92 * slots_in input ≤ length input →
    Front input
front_of input headed few whole =
    let slots : ℕ = slots_in input in
    let header : List ℕ = take 8 input in
    let body : List ℕ = take (92 * slots) (drop 8 input) in
    let after : List ℕ = drop (92 * slots) (drop 8 input) in
    let eight : length header ≡ 8 = length-take-le 8 input headed in
    let says : slots_in header ≡ slots =
    sym (slots-header header (drop 8 input) eight) ∙ ap slots_in (take-append-drop 8 input) in
    let rest : length (drop 8 input) + 8 ≡ length input = omega (arith, length-drop 8 input) in
    let long : length body ≡ 92 * slots = length-take-le (92 * slots) (drop 8 input) (omega (arith, rest)) in
    let chunks : List (List ℕ) = first_chunks 23 (4 * slots) body in
    record {
      tape = header ++ body;
      after = after;
      reading = reading_from header (shown_in chunks);
      split =
          sym (take-append-drop 8 input)
          ∙ ap (λ l. header ++ l) (sym (take-append-drop (92 * slots) (drop 8 input)))
          ∙ sym (append_assoc header body after);
      is = record {
        header = header;
        blocks = chunks;
        joined = ap (λ l. header ++ l) (sym (chunks_joined (4 * slots) body (omega (arith, long))));
        eight = eight;
        few = subst (λ n. n ≤ max_slots) (sym says) few;
        slots = record {
          four = chunks_long (4 * slots) body ∙ ap (λ n. 4 * n) (sym says);
          each = chunks_each (4 * slots) body (omega (arith, long));
        };
        reading_is = refl;
      };
      long = omega (arith, rest, length-drop (92 * slots) (drop 8 input));
    }

none_left : (octets : List ℕ) → length octets ≤ 0 → octets ≡ []
none_left [] none = refl
none_left (octet ∷ octets) none = absurd (omega arith)

-- an input is a tape, too short or too long
pub tape_has_kind : TapeHasKind
tape_has_kind input =
    elim (cases_lt (length input) 8) [
      | inl short ↦ inr (inl (λ headed. absurd (omega (arith, short, headed))))
      | inr headed ↦
          elim (cases_lt max_slots (slots_in input)) [
            | inl many ↦ inr (inr (headed, λ few. absurd (omega (arith, many, few))))
            | inr few ↦
                elim (cases_lt (length input) (8 + 92 * slots_in input)) [
                  | inl short ↦ inr (inl (λ _. (few, short)))
                  | inr whole ↦
                      let front : Front input = front_of input headed few whole in
                      elim (cases_lt 0 (length front.after)) [
                        | inl more ↦ inr (inr (headed, λ _. omega (arith, front.long, more)))
                        | inr none ↦
                            inl (
                              front.reading,
                              subst (λ o. IsTape o front.reading)
                                  (sym (front.split ∙ ap (λ l. front.tape ++ l) (none_left front.after none)
                                  ∙ append-nil front.tape)) front.is,
                            )
                      ]
                ]
          ]
    ]

-- the kinds of an input of at most so many tapes
abbrev KindWithin : ℕ → List ℕ → Type 0
KindWithin room input =
    ((readings : List TapeReading) × AreTapesWithin room input readings)
    ⊎ (IsShortWithin room input ⊎ IsLongWithin room input)

-- no tape stands before an input, or one more
none_before : (input : List ℕ) → BeginsWith input [] input
none_before input = record { front = []; split = refl; joined = refl }

one_before : (input : List ℕ) (front : Front input) (readings : List TapeReading) (rest : List ℕ) →
    BeginsWith front.after readings rest →
    BeginsWith input (front.reading ∷ readings) rest
one_before input front readings rest begins = record {
  front = front.tape ++ begins.front;
  split = front.split ∙ ap (λ l. front.tape ++ l) begins.split ∙ sym (append_assoc front.tape begins.front rest);
  joined = (front.tape, begins.front, refl, front.is, begins.joined);
}

cut_in : (room : ℕ) (input : List ℕ) → IsCut input → IsShortWithin (suc room) input
cut_in room input cut = record { readings = []; rest = input; begins = none_before input; few = omega arith; cut = cut }

oversized_in : (room : ℕ) (input : List ℕ) → IsOversized input → IsLongWithin (suc room) input
oversized_in room input oversized = record {
  readings = [];
  rest = input;
  begins = none_before input;
  few = omega arith;
  oversized = λ _. oversized;
  more = λ all. absurd (omega (arith, all));
}

-- a tape in front of an input of some kind
short_more : (room : ℕ) (input : List ℕ) (front : Front input) → IsShortWithin room front.after →
    IsShortWithin (suc room) input
short_more room input front s = record {
  readings = front.reading ∷ s.readings;
  rest = s.rest;
  begins = one_before input front s.readings s.rest s.begins;
  few = let few : length s.readings < room = s.few in omega arith;
  cut = s.cut;
}

long_more : (room : ℕ) (input : List ℕ) (front : Front input) → IsLongWithin room front.after →
    IsLongWithin (suc room) input
long_more room input front s = record {
  readings = front.reading ∷ s.readings;
  rest = s.rest;
  begins = one_before input front s.readings s.rest s.begins;
  few = let few : length s.readings ≤ room = s.few in omega arith;
  oversized = λ less. s.oversized (omega (arith, less));
  more = λ all. s.more (omega (arith, all));
}

more_tapes : (room : ℕ) (input : List ℕ) (front : Front input) → KindWithin room front.after →
    KindWithin (suc room) input
more_tapes room input front kind =
    elim kind [
      | inl r ↦
          let few : length r.0 ≤ room = r.1.few in
          inl (
            front.reading ∷ r.0,
            record { joined = (front.tape, front.after, front.split, front.is, r.1.joined); few = omega arith },
          )
      | inr other ↦
          elim other [
            | inl s ↦ inr (inl (short_more room input front s))
            | inr s ↦ inr (inr (long_more room input front s))
          ]
    ]

kind_in : (room : ℕ) (input : List ℕ) → KindWithin room input
kind_in zero [] = inl ([], record { joined = refl; few = omega arith })
kind_in zero (octet ∷ octets) =
    inr (inr (record {
      readings = [];
      rest = octet ∷ octets;
      begins = none_before (octet ∷ octets);
      few = omega arith;
      oversized = λ less. absurd (omega (arith, less));
      more = λ _. omega arith;
    }))
kind_in (suc room) input =
    elim (cases_lt 0 (length input)) [
      | inr none ↦ inl ([], record { joined = none_left input none; few = omega arith })
      | inl some ↦
          elim (cases_lt (length input) 8) [
            | inl short ↦
                inr (inl (cut_in room input (record {
                  some = some;
                  few = λ headed. absurd (omega (arith, short, headed));
                  inside = λ headed. absurd (omega (arith, short, headed));
                })))
            | inr headed ↦
                elim (cases_lt max_slots (slots_in input)) [
                  | inl many ↦ inr (inr (oversized_in room input (record { headed = headed; many = many })))
                  | inr few ↦
                      elim (cases_lt (length input) (8 + 92 * slots_in input)) [
                        | inl short ↦
                            inr (inl (cut_in room input (record { some = some; few = λ _. few; inside = λ _. short })))
                        | inr whole ↦
                            let front : Front input = front_of input headed few whole in
                            more_tapes room input front (kind_in room front.after)
                      ]
                ]
          ]
    ]

-- an input is tapes, too short or too long
pub tapes_have_kind : TapesHaveKind
tapes_have_kind input = kind_in max_tapes input
