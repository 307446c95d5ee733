-- What was noted of a cell, after one more note and at the end of a pass, and what is asked of it.
use Rattle.std.proofs.Common.{◌≡◌, ◌⊎◌, ◌∙◌, ℕ, ◌+◌, ◌<◌, ◌≤◌, max, min, Option, Some, None, sym}
use Rattle.std.proofs.Common.{subst, ap, arith, true, false, List, [], ◌∷◌, ◌++◌, length, All}
use Rattle.std.proofs.Common.{filter, slice_index_or, replicate}
use Rattle.std.specs.List.{list_all}
use Rattle.std.proofs.lemmas.List.{append-nil, append_assoc}
use Rattle.std.proofs.lemmas.List.{get_or-replicate, length-replicate}
use Rattle.std.proofs.lemmas.List.Concat.{flat_map-append}
use Rattle.cbsp_wire.specs.declared.message.Cell.{Cell}
use Rattle.cbsp_wire.specs.Range.{is_cell}
use Rattle.bsc_table.specs.declared.entry.Entry.{Entry}
use Rattle.bsc_table.specs.declared.entry.SlotRange.{SlotRange}
use Rattle.bsc_table.specs.Record.{Record}
use Rattle.order_desk.specs.declared.note.Note.{Note}
use Rattle.order_desk.specs.declared.note.Note.TheVariants as notes
use Rattle.order_desk.specs.declared.settle.cell_notes.CellNotes.{CellNotes}
use Rattle.order_desk.specs.Agreement.{all_notes, AreInPlaceAt, IsRightNumber, IsRightSlot}
use Rattle.order_desk.specs.Agreement.{is_ended, is_event_at, is_full_of, times_noted, times_played}
use Rattle.order_desk.specs.SettleSteps.{AreLike, AreTimes, HasKept, HasNoted, IsLeastFailing, IsNext}
use Rattle.order_desk.specs.SettleSteps.{ends_by, has_slot, is_note_of, lesser, ranges_of}
use Rattle.order_desk.proofs.FirstNot.{first_same}
use Rattle.order_desk.proofs.Judged.{right_number, right_slot}
use Rattle.order_desk.proofs.Kept.{all_of_passes, any_of_passes}
use Rattle.order_desk.proofs.Kept.{kept_entry, kept_full, kept_none, kept_other, kept_range}
use Rattle.order_desk.proofs.Walked.{walked_end, walked_entry, walked_full, walked_none, walked_other, walked_range}

-- one more note of the pass under way is one more of all
after : (earlier : List (List Note)) (given : List Note) (note : Note)
    → (all_notes earlier ++ given) ++ note ∷ [] ≡ all_notes earlier ++ (given ++ note ∷ [])
after earlier given note = append_assoc (all_notes earlier) given (note ∷ [])

kept_after : (cell : Cell) (earlier : List (List Note)) (given : List Note) (note : Note) (notes : CellNotes)
    → HasKept cell ((all_notes earlier ++ given) ++ note ∷ []) notes
    → HasKept cell (all_notes earlier ++ (given ++ note ∷ [])) notes
kept_after cell earlier given note notes has =
    subst (λ (all : List Note). HasKept cell all notes) (after earlier given note) has

-- before anything is noted
pub noted_none : (r : Record) (entries : ℕ) (notes : CellNotes)
    → length r.log ≡ entries
    → notes.times_noted.items ≡ replicate entries 0
    → notes.misplaced ≡ None
    → notes.ranges.items ≡ []
    → notes.last ≡ record { from = 0; to = 0 }
    → notes.is_full ≡ false
    → notes.next_number ≡ 0
    → notes.played_to ≡ 0
    → HasNoted r [] [] notes
noted_none r entries notes long times misplaced ranges last full next played = record {
  places = places ∙ sym long;
  kept = kept_none r.cell notes zeros ranges last full;
  walked = walked_none r.cell r.log notes next played misplaced;
}
  where
    places : length notes.times_noted.items ≡ entries
    places = ap length times ∙ length-replicate entries 0

    zeros : (k : ℕ) → k < length notes.times_noted.items → slice_index_or notes.times_noted.items k 0 ≡ 0
    zeros k within = ap (λ (ts : List ℕ). slice_index_or ts k 0) times
        ∙ get_or-replicate entries k 0 0 (subst (λ n. k < n) places within)

-- a note of another cell
pub noted_other : (r : Record) (earlier : List (List Note)) (given : List Note) (note : Note) (notes : CellNotes)
    → is_note_of r.cell note ≡ false
    → HasNoted r earlier given notes
    → HasNoted r earlier (given ++ note ∷ []) notes
noted_other r earlier given note notes other has = record {
  places = has.places;
  kept = kept_after r.cell earlier given note notes
      (kept_other r.cell (all_notes earlier ++ given) note notes other has.kept);
  walked = walked_other r.cell r.log earlier given note notes other has.walked;
}

-- an entry of the cell
pub noted_entry : (r : Record) (earlier : List (List Note)) (given : List Note) (c : Cell) (number : ℕ) (entry : Entry)
    (old new : CellNotes)
    → is_cell r.cell c ≡ true
    → length new.times_noted.items ≡ length old.times_noted.items
    → ((k : ℕ) → k < length old.times_noted.items → number ≤ k → k < number + 1
    → slice_index_or new.times_noted.items k 0 ≡ min (slice_index_or old.times_noted.items k 0 + 1) 255)
    → ((k : ℕ) → k < length old.times_noted.items → (k < number) ⊎ (number + 1 ≤ k)
    → slice_index_or new.times_noted.items k 0 ≡ slice_index_or old.times_noted.items k 0)
    → (IsNext old r.log number entry × (new.misplaced ≡ old.misplaced))
    ⊎ ((IsNext old r.log number entry → ⊥) × (new.misplaced ≡ lesser old.misplaced (Some number)))
    → new.next_number ≡ max old.next_number (number + 1)
    → ranges_of new ≡ ranges_of old
    → new.is_full ≡ old.is_full
    → new.played_to ≡ old.played_to
    → HasNoted r earlier given old
    → HasNoted r earlier (given ++ notes.Event c number entry ∷ []) new
noted_entry r earlier given c number entry old new same places inside outside misplaced next ranges full played has =
    record {
      places = places ∙ has.places;
      kept = kept_after r.cell earlier given (notes.Event c number entry) new
          (kept_entry r.cell c (all_notes earlier ++ given) number entry old new same places inside outside ranges full
          has.kept);
      walked = walked_entry r.cell c r.log earlier given number entry old new same next played misplaced has.walked;
    }

-- a range of the cell
pub noted_range : (r : Record) (earlier : List (List Note)) (given : List Note) (c : Cell) (range : SlotRange)
    (old new : CellNotes)
    → is_cell r.cell c ≡ true
    → AreLike (ranges_of new) (ranges_of old ++ range ∷ [])
    → new.played_to ≡ max old.played_to range.to
    → new.times_noted ≡ old.times_noted
    → new.misplaced ≡ old.misplaced
    → new.is_full ≡ old.is_full
    → new.next_number ≡ old.next_number
    → HasNoted r earlier given old
    → HasNoted r earlier (given ++ notes.Played c range.from range.to ∷ []) new
noted_range r earlier given c range old new same ranges played times misplaced full next has = record {
  places = ap (λ (ts : _). length ts.items) times ∙ has.places;
  kept = kept_after r.cell earlier given (notes.Played c range.from range.to) new
      (kept_range r.cell c (all_notes earlier ++ given) range old new same times ranges full has.kept);
  walked = walked_range r.cell c r.log earlier given range.from range.to old new same next played misplaced has.walked;
}

-- a note that the cell's log is full
pub noted_full : (r : Record) (earlier : List (List Note)) (given : List Note) (c : Cell) (old new : CellNotes)
    → is_cell r.cell c ≡ true
    → new.times_noted ≡ old.times_noted
    → new.misplaced ≡ old.misplaced
    → ranges_of new ≡ ranges_of old
    → new.is_full ≡ true
    → new.next_number ≡ old.next_number
    → new.played_to ≡ old.played_to
    → HasNoted r earlier given old
    → HasNoted r earlier (given ++ notes.Full c ∷ []) new
noted_full r earlier given c old new same times misplaced ranges full next played has = record {
  places = ap (λ (ts : _). length ts.items) times ∙ has.places;
  kept = kept_after r.cell earlier given (notes.Full c) new
      (kept_full r.cell c (all_notes earlier ++ given) old new same times ranges full has.kept);
  walked = walked_full r.cell c r.log earlier given old new next played misplaced has.walked;
}

-- the end of a pass
pub noted_end : (r : Record) (earlier : List (List Note)) (given : List Note) (old new : CellNotes)
    → new.times_noted ≡ old.times_noted
    → new.misplaced ≡ old.misplaced
    → ranges_of new ≡ ranges_of old
    → new.is_full ≡ old.is_full
    → new.next_number ≡ 0
    → new.played_to ≡ 0
    → HasNoted r earlier given old
    → HasNoted r (earlier ++ given ∷ []) [] new
noted_end r earlier given old new times misplaced ranges full next played has = record {
  places = ap (λ (ts : _). length ts.items) times ∙ has.places;
  kept = subst (λ (all : List Note). HasKept r.cell all new) (sym all_are) (record {
    noted = subst (λ (ts : _). AreTimes (is_event_at r.cell) (all_notes earlier ++ given) ts.items) (sym times)
        has.kept.noted;
    played = subst (λ (rs : List SlotRange). (slot : ℕ) → length (filter (has_slot slot) rs)
        ≡ times_played r.cell slot (all_notes earlier ++ given)) (sym ranges) has.kept.played;
    ended = subst (λ (rs : List SlotRange). (slot : ℕ) → list_all (ends_by slot) rs
        ≡ list_all (is_ended r.cell slot) (all_notes earlier ++ given)) (sym ranges) has.kept.ended;
    full = full ∙ has.kept.full;
  });
  walked = walked_end r.cell r.log earlier given old new next played misplaced has.walked;
}
  where
    all_are : all_notes (earlier ++ given ∷ []) ++ [] ≡ all_notes earlier ++ given
    all_are = append-nil (all_notes (earlier ++ given ∷ []))
        ∙ (flat_map-append (λ (p : List Note). p) earlier (given ∷ [])
        ∙ ap (λ (p : List Note). all_notes earlier ++ p) (append-nil given))

-- what is kept of all passes is kept of all their notes
kept_of_passes : (r : Record) (passes : List (List Note)) (notes : CellNotes) → HasNoted r passes [] notes
    → HasKept r.cell (all_notes passes) notes
kept_of_passes r passes notes has =
    subst (λ (all : List Note). HasKept r.cell all notes) (append-nil (all_notes passes)) has.kept

once_from : (times n : ℕ) → times ≡ min n 255 → times ≡ 1 → n ≡ 1
once_from times n is one = omega arith

once_to : (times n : ℕ) → times ≡ min n 255 → n ≡ 1 → times ≡ 1
once_to times n is one = omega arith

-- the least wrong number of a cell, by what was noted of it
pub least_strange : (r : Record) (passes : List (List Note)) (notes : CellNotes) (b c : Option ℕ)
    → HasNoted r passes [] notes
    → IsLeastFailing (λ k. k < length notes.times_noted.items → slice_index_or notes.times_noted.items k 0 ≡ 1) b
    → IsLeastFailing (λ k. k ≡ 4096 → notes.is_full ≡ true → 4096 ≤ length r.log) c
    → IsLeastFailing (IsRightNumber r.cell r.log passes) (lesser (lesser notes.misplaced b) c)
least_strange r passes notes b c has once full = right_number r.cell r.log passes notes.misplaced b c
    (first_same (λ k. All (AreInPlaceAt r.cell r.log k []) passes × AreInPlaceAt r.cell r.log k [] [])
    (λ k. All (AreInPlaceAt r.cell r.log k []) passes) notes.misplaced (λ k is. is.0) (λ k is. (is, tt))
    has.walked.first)
    (first_same (λ k. k < length notes.times_noted.items → slice_index_or notes.times_noted.items k 0 ≡ 1)
    (λ k. k < length r.log → times_noted r.cell k (all_notes passes) ≡ 1) b
    (λ k is lt. once_from (slice_index_or notes.times_noted.items k 0) (times_noted r.cell k (all_notes passes))
    (kept.noted k (subst (λ n. k < n) (sym has.places) lt)) (is (subst (λ n. k < n) (sym has.places) lt)))
    (λ k is lt. once_to (slice_index_or notes.times_noted.items k 0) (times_noted r.cell k (all_notes passes))
    (kept.noted k lt) (is (subst (λ n. k < n) has.places lt))) once)
    (subst (λ b. IsLeastFailing (λ k. k ≡ 4096 → b ≡ true → 4096 ≤ length r.log) c)
    (kept.full ∙ any_of_passes (is_full_of r.cell) passes) full)
  where
    kept : HasKept r.cell (all_notes passes) notes
    kept = kept_of_passes r passes notes has

-- the least wrong slot of a cell, by what was noted of it
pub least_overlap : (r : Record) (passes : List (List Note)) (notes : CellNotes) (times : List ℕ) (a b : Option ℕ)
    → HasNoted r passes [] notes
    → length times ≡ r.clock
    → AreTimes has_slot (ranges_of notes) times
    → IsLeastFailing (λ slot. slot < length times → slice_index_or times slot 0 ≡ 1) a
    → IsLeastFailing (λ slot. r.clock ≤ slot → list_all (ends_by slot) (ranges_of notes) ≡ true) b
    → IsLeastFailing (IsRightSlot r.cell r.clock passes) (lesser a b)
least_overlap r passes notes times a b has places are once late = right_slot r.cell r.clock passes a b
    (first_same (λ slot. slot < length times → slice_index_or times slot 0 ≡ 1)
    (λ slot. slot < r.clock → times_played r.cell slot (all_notes passes) ≡ 1) a
    (λ slot is lt. once_from (slice_index_or times slot 0) (times_played r.cell slot (all_notes passes))
    (counted slot (subst (λ n. slot < n) (sym places) lt)) (is (subst (λ n. slot < n) (sym places) lt)))
    (λ slot is lt. once_to (slice_index_or times slot 0) (times_played r.cell slot (all_notes passes))
    (counted slot lt) (is (subst (λ n. slot < n) places lt))) once)
    (first_same (λ slot. r.clock ≤ slot → list_all (ends_by slot) (ranges_of notes) ≡ true)
    (λ slot. r.clock ≤ slot → list_all (list_all (is_ended r.cell slot)) passes ≡ true) b
    (λ slot is le. sym (ended slot) ∙ is le) (λ slot is le. ended slot ∙ is le) late)
  where
    kept : HasKept r.cell (all_notes passes) notes
    kept = kept_of_passes r passes notes has

    counted : (slot : ℕ) → slot < length times
        → slice_index_or times slot 0 ≡ min (times_played r.cell slot (all_notes passes)) 255
    counted slot lt = are slot lt ∙ ap (λ n. min n 255) (kept.played slot)

    ended : (slot : ℕ) → list_all (ends_by slot) (ranges_of notes) ≡ list_all (list_all (is_ended r.cell slot)) passes
    ended slot = kept.ended slot ∙ all_of_passes (is_ended r.cell slot) passes
