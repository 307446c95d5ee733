-- What is kept of a cell's notes by their kinds, note by note.
use Rattle.std.proofs.Common.{◌≡◌, ◌⊎◌, ◌∙◌, ℕ, ◌+◌, ◌<◌, ◌≤◌, min, refl, sym, subst, ap, arith, cond, leb, ltb}
use Rattle.std.proofs.Common.{Bool, true, false, ◌==◌, ◌&&◌, ◌||◌, List, [], ◌∷◌, ◌++◌, length, filter, slice_index_or}
use Rattle.std.specs.List.{list_all, list_any}
use Rattle.std.proofs.lemmas.List.Folds.{list_all-append, list_any-append}
use Rattle.cbsp_wire.specs.declared.message.Cell.{Cell}
use Rattle.cbsp_wire.specs.Range.{is_cell}
use Rattle.bsc_table.specs.declared.entry.Entry.{Entry}
use Rattle.bsc_table.specs.declared.entry.SlotRange.{SlotRange}
use Rattle.order_desk.specs.declared.note.Note.{Note}
use Rattle.order_desk.specs.declared.note.Note.TheVariants as notes
use Rattle.order_desk.specs.declared.settle.cell_notes.CellNotes.{CellNotes}
use Rattle.order_desk.specs.Agreement.{all_notes, is_below, is_ended, is_event_at, is_play_of, is_full_of}
use Rattle.order_desk.specs.SettleSteps.{AreLike, AreTimes, HasKept, is_note_of, has_slot, ends_by, ranges_of}
use Rattle.order_desk.proofs.Tallied.{count_with, count_without, only_place, times_with, times_without}

-- what a note of another cell is
other_event : (cell : Cell) (k : ℕ) (note : Note) → is_note_of cell note ≡ false → is_event_at cell k note ≡ false
other_event cell k (notes.Event c number entry) other = ap (λ b. b && (number == k)) other
other_event cell k (notes.Played c from to) other = refl
other_event cell k (notes.Full c) other = refl

other_play : (cell : Cell) (slot : ℕ) (note : Note) → is_note_of cell note ≡ false → is_play_of cell slot note ≡ false
other_play cell slot (notes.Event c number entry) other = refl
other_play cell slot (notes.Played c from to) other = ap (λ b. b && (leb from slot && ltb slot to)) other
other_play cell slot (notes.Full c) other = refl

other_full : (cell : Cell) (note : Note) → is_note_of cell note ≡ false → is_full_of cell note ≡ false
other_full cell (notes.Event c number entry) other = refl
other_full cell (notes.Played c from to) other = refl
other_full cell (notes.Full c) other = other

-- a note of another cell is below each number
pub other_below : (cell : Cell) (k : ℕ) (note : Note) → is_note_of cell note ≡ false → is_below cell k note ≡ true
other_below cell k (notes.Event c number entry) other = ap (λ b. cond b (ltb number k) true) other
other_below cell k (notes.Played c from to) other = refl
other_below cell k (notes.Full c) other = refl

-- and has ended by each slot
pub other_ended : (cell : Cell) (slot : ℕ) (note : Note) → is_note_of cell note ≡ false → is_ended cell slot note ≡ true
other_ended cell slot (notes.Event c number entry) other = refl
other_ended cell slot (notes.Played c from to) other = ap (λ b. cond b (leb to slot) true) other
other_ended cell slot (notes.Full c) other = refl

-- an item that passes leaves it to the others whether all do, and one that doesn't whether any does
all_without : {X : Type 0} (p : X → Bool) (xs : List X) (x : X) → p x ≡ true
    → list_all p (xs ++ x ∷ []) ≡ list_all p xs
all_without p xs x is = list_all-append p xs (x ∷ [])
    ∙ (ap (λ b. list_all p xs && (b && true)) is ∙ alone (list_all p xs))
  where
    alone : (b : Bool) → (b && true) ≡ b
    alone true = refl
    alone false = refl

any_without : {X : Type 0} (p : X → Bool) (xs : List X) (x : X) → p x ≡ false
    → list_any p (xs ++ x ∷ []) ≡ list_any p xs
any_without p xs x not = list_any-append p xs (x ∷ [])
    ∙ (ap (λ b. list_any p xs || (b || false)) not ∙ alone (list_any p xs))
  where
    alone : (b : Bool) → (b || false) ≡ b
    alone true = refl
    alone false = refl

any_with : {X : Type 0} (p : X → Bool) (xs : List X) (x : X) → p x ≡ true → list_any p (xs ++ x ∷ []) ≡ true
any_with p xs x is = list_any-append p xs (x ∷ [])
    ∙ (ap (λ b. list_any p xs || (b || false)) is ∙ whole (list_any p xs))
  where
    whole : (b : Bool) → (b || true) ≡ true
    whole true = refl
    whole false = refl

-- nothing is kept of no notes
pub kept_none : (cell : Cell) (notes : CellNotes)
    → ((k : ℕ) → k < length notes.times_noted.items → slice_index_or notes.times_noted.items k 0 ≡ 0)
    → notes.ranges.items ≡ []
    → notes.last ≡ record { from = 0; to = 0 }
    → notes.is_full ≡ false
    → HasKept cell [] notes
kept_none cell notes times ranges last full = record {
  noted = times;
  played = λ slot. ap (λ (rs : List SlotRange). length (filter (has_slot slot) rs)) none
      ∙ ap (λ b. length (cond b (nothing ∷ []) [])) (no_slot slot);
  ended = λ slot. ap (list_all (ends_by slot)) none ∙ at_once slot;
  full = full;
}
  where
    nothing : SlotRange
    nothing = record { from = 0; to = 0 }

    none : ranges_of notes ≡ nothing ∷ []
    none = ap (λ (rs : List SlotRange). rs ++ notes.last ∷ []) ranges ∙ ap (λ (r : SlotRange). r ∷ []) last

    no_slot : (slot : ℕ) → has_slot slot nothing ≡ false
    no_slot slot = grind arith

    at_once : (slot : ℕ) → (leb 0 slot && true) ≡ true
    at_once slot = grind arith

-- a note of another cell changes nothing
pub kept_other : (cell : Cell) (given : List Note) (note : Note) (notes : CellNotes)
    → is_note_of cell note ≡ false
    → HasKept cell given notes
    → HasKept cell (given ++ note ∷ []) notes
kept_other cell given note notes other has = record {
  noted = times_without (is_event_at cell) given note notes.times_noted.items (λ k. other_event cell k note other)
      has.noted;
  played = λ slot. has.played slot
      ∙ sym (count_without (is_play_of cell slot) given note (other_play cell slot note other));
  ended = λ slot. has.ended slot ∙ sym (all_without (is_ended cell slot) given note (other_ended cell slot note other));
  full = has.full ∙ sym (any_without (is_full_of cell) given note (other_full cell note other));
}

-- an entry of the cell is counted
pub kept_entry : (cell c : Cell) (given : List Note) (number : ℕ) (entry : Entry) (old new : CellNotes)
    → is_cell cell c ≡ true
    → length new.times_noted.items ≡ length old.times_noted.items
    → ((k : ℕ) → k < length old.times_noted.items → number ≤ k → k < number + 1
    → slice_index_or new.times_noted.items k 0 ≡ min (slice_index_or old.times_noted.items k 0 + 1) 255)
    → ((k : ℕ) → k < length old.times_noted.items → (k < number) ⊎ (number + 1 ≤ k)
    → slice_index_or new.times_noted.items k 0 ≡ slice_index_or old.times_noted.items k 0)
    → ranges_of new ≡ ranges_of old
    → new.is_full ≡ old.is_full
    → HasKept cell given old
    → HasKept cell (given ++ notes.Event c number entry ∷ []) new
kept_entry cell c given number entry old new same places inside outside ranges full has = record {
  noted = times_with (is_event_at cell) given note number (number + 1) old.times_noted.items new.times_noted.items
      has.noted places (λ k. only_place number k ∙ sym (ap (λ b. b && (number == k)) same)) inside outside;
  played = λ slot. ap (λ (rs : List SlotRange). length (filter (has_slot slot) rs)) ranges
      ∙ (has.played slot ∙ sym (count_without (is_play_of cell slot) given note refl));
  ended = λ slot. ap (list_all (ends_by slot)) ranges
      ∙ (has.ended slot ∙ sym (all_without (is_ended cell slot) given note refl));
  full = full ∙ (has.full ∙ sym (any_without (is_full_of cell) given note refl));
}
  where
    note : Note
    note = notes.Event c number entry

-- a range of the cell is one more range
pub kept_range : (cell c : Cell) (given : List Note) (range : SlotRange) (old new : CellNotes)
    → is_cell cell c ≡ true
    → new.times_noted ≡ old.times_noted
    → AreLike (ranges_of new) (ranges_of old ++ range ∷ [])
    → new.is_full ≡ old.is_full
    → HasKept cell given old
    → HasKept cell (given ++ notes.Played c range.from range.to ∷ []) new
kept_range cell c given range old new same times ranges full has = record {
  noted = subst (λ (ts : _). AreTimes (is_event_at cell) (given ++ note ∷ []) ts.items) (sym times)
      (times_without (is_event_at cell) given note old.times_noted.items (λ k. refl) has.noted);
  played = λ slot. ranges.slots slot
      ∙ (count_with (has_slot slot) (ranges_of old) range
      ∙ (ap (λ n. n + cond (has_slot slot range) 1 0) (has.played slot)
      ∙ (ap (λ b. length (filter (is_play_of cell slot) given) + cond (b && has_slot slot range) 1 0) (sym same)
      ∙ sym (count_with (is_play_of cell slot) given note))));
  ended = λ slot. ranges.ends slot
      ∙ (list_all-append (ends_by slot) (ranges_of old) (range ∷ [])
      ∙ (ap (λ b. b && (ends_by slot range && true)) (has.ended slot)
      ∙ (ap (λ b. list_all (is_ended cell slot) given && (cond b (ends_by slot range) true && true)) (sym same)
      ∙ sym (list_all-append (is_ended cell slot) given (note ∷ [])))));
  full = full ∙ (has.full ∙ sym (any_without (is_full_of cell) given note refl));
}
  where
    note : Note
    note = notes.Played c range.from range.to

-- and a full log is kept in mind
pub kept_full : (cell c : Cell) (given : List Note) (old new : CellNotes)
    → is_cell cell c ≡ true
    → new.times_noted ≡ old.times_noted
    → ranges_of new ≡ ranges_of old
    → new.is_full ≡ true
    → HasKept cell given old
    → HasKept cell (given ++ notes.Full c ∷ []) new
kept_full cell c given old new same times ranges full has = record {
  noted = subst (λ (ts : _). AreTimes (is_event_at cell) (given ++ note ∷ []) ts.items) (sym times)
      (times_without (is_event_at cell) given note old.times_noted.items (λ k. refl) has.noted);
  played = λ slot. ap (λ (rs : List SlotRange). length (filter (has_slot slot) rs)) ranges
      ∙ (has.played slot ∙ sym (count_without (is_play_of cell slot) given note refl));
  ended = λ slot. ap (list_all (ends_by slot)) ranges
      ∙ (has.ended slot ∙ sym (all_without (is_ended cell slot) given note refl));
  full = full ∙ sym (any_with (is_full_of cell) given note same);
}
  where
    note : Note
    note = notes.Full c

-- what any or all of the notes of some passes pass, one pass after the other
pub any_of_passes : (p : Note → Bool) (passes : List (List Note))
    → list_any p (all_notes passes) ≡ list_any (list_any p) passes
any_of_passes p [] = refl
any_of_passes p (pass ∷ passes) = list_any-append p pass (all_notes passes)
    ∙ ap (λ b. list_any p pass || b) (any_of_passes p passes)

-- the same of all
pub all_of_passes : (p : Note → Bool) (passes : List (List Note))
    → list_all p (all_notes passes) ≡ list_all (list_all p) passes
all_of_passes p [] = refl
all_of_passes p (pass ∷ passes) = list_all-append p pass (all_notes passes)
    ∙ ap (λ b. list_all p pass && b) (all_of_passes p passes)
