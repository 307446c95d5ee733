-- The strokes of the line that a message's marks are.
use Rattle.std.proofs.Common.{◌≡◌, ◌<◌, ◌≤◌, ◌+◌, ◌-◌, ◌++◌, ◌∙◌, ◌∷◌, ℕ, suc, zero, Bool, true, false, not, List, []}
use Rattle.std.proofs.Common.{ap, append_assoc, cond, length, map, refl, sym}
use native.Mathlib.Omega.{arith}
use Rattle.std.specs.List.{filter, flat_map, range_with_len}
use Rattle.std.proofs.lemmas.List.Sums.{length-filter}
use Rattle.chart.specs.Laws.{Cross, StrokesAreMarks, places_along}
use Rattle.chart.specs.Message.{is_marked, marked_from, marked_slots, marked_to, stroke_text, strokes_from, whole_slots}
use Rattle.chart.specs.declared.message.Stroke.{Stroke}

-- what is drawn of the slots from one on that pass a test
abbrev pub drawn_from : (p : ℕ → Bool) (slot end place : ℕ) (is_down : Bool) → List ℕ
drawn_from p slot end place is_down =
    flat_map stroke_text (strokes_from place is_down (filter p (range_with_len slot (end - slot))))

-- a stroke that was drawn, and those after it, are those from its slot on
pub stroke_drawn : (p : ℕ → Bool) (slot end place : ℕ) (is_down : Bool) (page after whole : List ℕ)
    → slot < end
    → p slot ≡ true
    → after ≡ page ++ stroke_text (record { along = slot + 1 - place; is_down = is_down })
    → page ++ drawn_from p slot end place is_down ≡ whole
    → after ++ drawn_from p (slot + 1) end (slot + 1) (not is_down) ≡ whole
stroke_drawn p slot end place is_down page after whole within is drawn so_far =
    let rest : List ℕ = filter p (range_with_len (slot + 1) (end - (slot + 1))) in
    let stroke : Stroke = record { along = slot + 1 - place; is_down = is_down } in
    let later : List ℕ = drawn_from p (slot + 1) end (slot + 1) (not is_down) in
    ap (λ (octets : List ℕ). octets ++ later) drawn
    ∙ append_assoc page (stroke_text stroke) later
    ∙ ap (λ (b : Bool). page ++ flat_map stroke_text (strokes_from place is_down (cond b (slot ∷ rest) rest))) (sym is)
    ∙ ap (λ (n : ℕ). page ++ flat_map stroke_text (strokes_from place is_down (filter p (range_with_len slot n)))) next
    ∙ so_far
  where
    next : suc (end - (slot + 1)) ≡ end - slot
    next = omega (arith, within)

-- a slot without one leaves those after it
pub slot_passed : (p : ℕ → Bool) (slot end place : ℕ) (is_down : Bool) (page whole : List ℕ)
    → slot < end
    → p slot ≡ false
    → page ++ drawn_from p slot end place is_down ≡ whole
    → page ++ drawn_from p (slot + 1) end place is_down ≡ whole
slot_passed p slot end place is_down page whole within is so_far =
    let rest : List ℕ = filter p (range_with_len (slot + 1) (end - (slot + 1))) in
    ap (λ (b : Bool). page ++ flat_map stroke_text (strokes_from place is_down (cond b (slot ∷ rest) rest))) (sym is)
    ∙ ap (λ (n : ℕ). page ++ flat_map stroke_text (strokes_from place is_down (filter p (range_with_len slot n)))) next
    ∙ so_far
  where
    next : suc (end - (slot + 1)) ≡ end - slot
    next = omega (arith, within)

-- with a slot that passes a test, or without it, strokes stand at the ends of slots, if those after it do
stand_on : (place from : ℕ) (is_down : Bool) (rest : List ℕ) (passes : Bool) → place ≤ from
    → places_along (from + 1) (strokes_from (from + 1) (not is_down) rest) ≡ map (λ slot. slot + 1) rest
    → places_along place (strokes_from place is_down rest) ≡ map (λ slot. slot + 1) rest
    → places_along place (strokes_from place is_down (cond passes (from ∷ rest) rest))
    ≡ map (λ slot. slot + 1) (cond passes (from ∷ rest) rest)
stand_on place from is_down rest true after later same =
    let here : place + (from + 1 - place) ≡ from + 1 = omega (arith, after) in
    ap (λ (at : ℕ). at ∷ places_along at (strokes_from (from + 1) (not is_down) rest)) here
    ∙ ap (λ (places : List ℕ). (from + 1) ∷ places) later
stand_on place from is_down rest false after later same = same

-- the strokes of a range of slots stand at the ends of those that pass a test
stand : (p : ℕ → Bool) (place : ℕ) (is_down : Bool) (from n : ℕ) → place ≤ from
    → places_along place (strokes_from place is_down (filter p (range_with_len from n)))
    ≡ map (λ slot. slot + 1) (filter p (range_with_len from n))
stand p place is_down from zero after = refl
stand p place is_down from (suc n) after =
    stand_on place from is_down (filter p (range_with_len (from + 1) n)) (p from) after
    (stand p (from + 1) (not is_down) (from + 1) n (omega arith))
    (stand p place is_down (from + 1) n (omega (arith, after)))

-- each of them crosses the picture
each_crosses : (place : ℕ) (is_down : Bool) (slots : List ℕ) → Cross is_down (strokes_from place is_down slots)
each_crosses place is_down [] = tt
each_crosses place is_down (slot ∷ slots) = (refl, each_crosses (slot + 1) (not is_down) slots)

-- there is one for each slot
one_each : (place : ℕ) (is_down : Bool) (slots : List ℕ) → length (strokes_from place is_down slots) ≡ length slots
one_each place is_down [] = refl
one_each place is_down (slot ∷ slots) = ap (λ (n : ℕ). suc n) (one_each (slot + 1) (not is_down) slots)

-- the strokes of a message's line are its marks
pub strokes_are_marks : StrokesAreMarks
strokes_are_marks s slots air m = record {
  places = stand (is_marked air m) 0 true (marked_from s m) (marked_to s slots m - marked_from s m) (omega arith);
  cross = each_crosses 0 true (whole_slots s slots air m);
  number = one_each 0 true (whole_slots s slots air m) ∙ length-filter (is_marked air m) (marked_slots s slots m);
}
