-- The order of what the passes noted of a cell, note by note.
use Rattle.std.proofs.Common.{◌≡◌, ◌⊎◌, ℕ, ◌+◌, ◌<◌, ◌≤◌, max, Option, Some, List}
use Rattle.std.proofs.Common.{[], ◌∷◌, ◌++◌, All, inl, inr, true, false, Bool}
use Rattle.std.proofs.Common.{sym, subst, refl, ap, arith, ◌∙◌, slice_index_or, cond, ltb, leb, None, ◌==◌}
use Rattle.std.proofs.lemmas.Bool.{false≢true, eqb-true, eq-eqb, lt-ltb, ltb-true, le-leb, leb-true, and_from}
use Rattle.cbsp_wire.proofs.Tests.{and_parts}
use Rattle.std.proofs.lemmas.List.{append-nil, append_assoc}
use Rattle.std.specs.List.{AllByRecursion}
use Rattle.std.proofs.lemmas.List.Elements.{All-append, All-from_recursion, All-nil, recursion_from_All}
use Rattle.cbsp_wire.specs.declared.message.Cell.{Cell}
use Rattle.cbsp_wire.specs.Range.{is_cell}
use Rattle.bsc_table.specs.declared.entry.Entry.{Entry}
use Rattle.order_desk.specs.declared.note.Note.{Note}
use Rattle.order_desk.specs.declared.note.Note.TheVariants as notes
use Rattle.order_desk.specs.declared.settle.cell_notes.CellNotes.{CellNotes}
use Rattle.order_desk.specs.Agreement.{is_below, is_ended, is_event_at, IsInPlace, IsInPlaceAt, AreInPlaceAt}
use Rattle.order_desk.specs.SettleSteps.{IsLeastFailing, HasWalked, IsNext, is_note_of, lesser}
use Rattle.order_desk.proofs.FirstNot.{first_same, first_with}
use Rattle.order_desk.proofs.Kept.{other_below, other_ended}

clash : (b : Bool) → b ≡ true → b ≡ false → ⊥
clash b is not = false≢true (sym not ∙ is)

-- a fact of each of some items and of one more
pub all_with : {X : Type 0} (P : X → Type 0) (xs : List X) (x : X) → All P xs → P x → All P (xs ++ x ∷ [])
all_with P xs x all is = All-append P xs (x ∷ []) all (All-from_recursion P (x ∷ []) (is, tt))

recursion_last : {X : Type 0} (P : X → Type 0) (xs : List X) (x : X) → AllByRecursion P (xs ++ x ∷ [])
    → AllByRecursion P xs × P x
recursion_last P [] x all = (tt, all.0)
recursion_last P (y ∷ xs) x all = let rest = recursion_last P xs x all.1 in ((all.0, rest.0), rest.1)

-- what all items are, the last one and those before it are
pub all_last : {X : Type 0} (P : X → Type 0) (xs : List X) (x : X) → All P (xs ++ x ∷ []) → All P xs × P x
all_last P xs x all = let rest = recursion_last P xs x (recursion_from_All P (xs ++ x ∷ []) all) in
    (All-from_recursion P xs rest.0, rest.1)

all_also : {X : Type 0} (P Q : X → Type 0) → ((x : X) → P x → Q x) → (xs : List X) → All P xs → All Q xs
all_also P Q also xs all = λ k d lt. also (slice_index_or xs k d) (all k d lt)

-- one more note at the end is in its place after all before it
pub in_place_after : (cell : Cell) (log : List Entry) (k : ℕ) (before given : List Note) (note : Note)
    → AreInPlaceAt cell log k before given
    → IsInPlaceAt cell log k (before ++ given) note
    → AreInPlaceAt cell log k before (given ++ note ∷ [])
in_place_after cell log k before [] note are is =
    (subst (λ (b : List Note). IsInPlaceAt cell log k b note) (append-nil before) is, tt)
in_place_after cell log k before (n ∷ given) note are is = (
  are.0,
  in_place_after cell log k (before ++ n ∷ []) given note are.1
      (subst (λ (b : List Note). IsInPlaceAt cell log k b note) (sym (append_assoc before (n ∷ []) given)) is),
)

in_place_before : (cell : Cell) (log : List Entry) (k : ℕ) (before given : List Note) (note : Note)
    → AreInPlaceAt cell log k before (given ++ note ∷ [])
    → AreInPlaceAt cell log k before given × IsInPlaceAt cell log k (before ++ given) note
in_place_before cell log k before [] note are =
    (tt, subst (λ (b : List Note). IsInPlaceAt cell log k b note) (sym (append-nil before)) are.0)
in_place_before cell log k before (n ∷ given) note are =
    let later = in_place_before cell log k (before ++ n ∷ []) given note are.1 in (
      (are.0, later.0),
      subst (λ (b : List Note). IsInPlaceAt cell log k b note) (append_assoc before (n ∷ []) given)
          later.1,
    )

-- a note below a number is below any that isn't less, and one that ended by a slot did by any that isn't earlier
pub below_more : (cell : Cell) (k more : ℕ) → k ≤ more → (note : Note) → is_below cell k note ≡ true
    → is_below cell more note ≡ true
below_more cell k more le (notes.Event c number entry) is = at (is_cell cell c) is
  where
    at : (same : Bool) → cond same (ltb number k) true ≡ true → cond same (ltb number more) true ≡ true
    at true below = lt-ltb number more (less (ltb-true number k below))
      where
        less : number < k → number < more
        less lt = omega arith
    at false below = refl
below_more cell k more le (notes.Played c from to) is = refl
below_more cell k more le (notes.Full c) is = refl

-- a note that has ended by a slot has ended by a later one
pub ended_later : (cell : Cell) (slot later : ℕ) → slot ≤ later → (note : Note) → is_ended cell slot note ≡ true
    → is_ended cell later note ≡ true
ended_later cell slot later le (notes.Event c number entry) is = refl
ended_later cell slot later le (notes.Played c from to) is = at (is_cell cell c) is
  where
    at : (same : Bool) → cond same (leb to slot) true ≡ true → cond same (leb to later) true ≡ true
    at true below = le-leb to later (less (leb-true to slot below))
      where
        less : to ≤ slot → to ≤ later
        less lt = omega arith
    at false below = refl
ended_later cell slot later le (notes.Full c) is = refl

-- all passes so far have what they noted of a number in its place
abbrev Placed : (cell : Cell) (log : List Entry) (earlier : List (List Note)) (given : List Note) (k : ℕ) → Type 0
Placed cell log earlier given k = All (AreInPlaceAt cell log k []) earlier × AreInPlaceAt cell log k [] given

-- the beginning
pub walked_none : (cell : Cell) (log : List Entry) (notes : CellNotes)
    → notes.next_number ≡ 0
    → notes.played_to ≡ 0
    → notes.misplaced ≡ None
    → HasWalked cell log [] [] notes
walked_none cell log notes next played misplaced = record {
  below = All-nil (λ n. is_below cell notes.next_number n ≡ true);
  lowest = λ k _. omega (arith, next);
  ended = All-nil (λ n. is_ended cell notes.played_to n ≡ true);
  nearest = λ slot _. omega (arith, played);
  first = subst (IsLeastFailing (Placed cell log [] [])) (sym misplaced)
      (λ k. (All-nil (AreInPlaceAt cell log k []), tt));
}

-- the end of a pass
pub walked_end : (cell : Cell) (log : List Entry) (earlier : List (List Note)) (given : List Note)
    (old new : CellNotes)
    → new.next_number ≡ 0
    → new.played_to ≡ 0
    → new.misplaced ≡ old.misplaced
    → HasWalked cell log earlier given old
    → HasWalked cell log (earlier ++ given ∷ []) [] new
walked_end cell log earlier given old new next played misplaced has = record {
  below = All-nil (λ n. is_below cell new.next_number n ≡ true);
  lowest = λ k _. omega (arith, next);
  ended = All-nil (λ n. is_ended cell new.played_to n ≡ true);
  nearest = λ slot _. omega (arith, played);
  first = subst (IsLeastFailing (Placed cell log (earlier ++ given ∷ []) [])) (sym misplaced)
      (first_same (Placed cell log earlier given) (Placed cell log (earlier ++ given ∷ []) []) old.misplaced
      (λ k are. (all_with (AreInPlaceAt cell log k []) earlier given are.0 are.1, tt))
      (λ k are. all_last (AreInPlaceAt cell log k []) earlier given are.0) has.first);
}

-- a note that is neither an entry nor a range of the cell leaves the least misplaced number
first_kept : (cell : Cell) (log : List Entry) (earlier : List (List Note)) (given : List Note) (note : Note)
    (found : Option ℕ)
    → ((k : ℕ) → IsInPlaceAt cell log k given note)
    → IsLeastFailing (Placed cell log earlier given) found
    → IsLeastFailing (Placed cell log earlier (given ++ note ∷ [])) found
first_kept cell log earlier given note found placed first =
    first_same (Placed cell log earlier given) (Placed cell log earlier (given ++ note ∷ [])) found
    (λ k are. (are.0, in_place_after cell log k [] given note are.1 (placed k)))
    (λ k are. (are.0, (in_place_before cell log k [] given note are.1).0)) first

-- a note that is below each number, and has ended by each slot
walked_quiet : (cell : Cell) (log : List Entry) (earlier : List (List Note)) (given : List Note) (note : Note)
    (old new : CellNotes)
    → ((k : ℕ) → is_below cell k note ≡ true)
    → ((slot : ℕ) → is_ended cell slot note ≡ true)
    → ((k : ℕ) → IsInPlaceAt cell log k given note)
    → new.next_number ≡ old.next_number
    → new.played_to ≡ old.played_to
    → new.misplaced ≡ old.misplaced
    → HasWalked cell log earlier given old
    → HasWalked cell log earlier (given ++ note ∷ []) new
walked_quiet cell log earlier given note old new below ended placed next played misplaced has = record {
  below = subst (λ n. All (λ m. is_below cell n m ≡ true) (given ++ note ∷ [])) (sym next)
      (all_with (λ n. is_below cell old.next_number n ≡ true) given note has.below (below old.next_number));
  lowest = λ k all. subst (λ n. n ≤ k) (sym next)
      (has.lowest k (all_last (λ n. is_below cell k n ≡ true) given note all).0);
  ended = subst (λ n. All (λ m. is_ended cell n m ≡ true) (given ++ note ∷ [])) (sym played)
      (all_with (λ n. is_ended cell old.played_to n ≡ true) given note has.ended (ended old.played_to));
  nearest = λ slot all. subst (λ n. n ≤ slot) (sym played)
      (has.nearest slot (all_last (λ n. is_ended cell slot n ≡ true) given note all).0);
  first = subst (IsLeastFailing (Placed cell log earlier (given ++ note ∷ []))) (sym misplaced)
      (first_kept cell log earlier given note old.misplaced placed has.first);
}

-- a note of another cell changes nothing
pub walked_other : (cell : Cell) (log : List Entry) (earlier : List (List Note)) (given : List Note) (note : Note)
    (kept : CellNotes)
    → is_note_of cell note ≡ false
    → HasWalked cell log earlier given kept
    → HasWalked cell log earlier (given ++ note ∷ []) kept
walked_other cell log earlier given note kept other has =
    walked_quiet cell log earlier given note kept kept (λ k. other_below cell k note other)
    (λ slot. other_ended cell slot note other) (λ k. in_place k note other) refl refl refl has
  where
    in_place : (k : ℕ) (n : Note) → is_note_of cell n ≡ false → IsInPlaceAt cell log k given n
    in_place k (notes.Event c number entry) not = λ event.
        absurd (clash (is_cell cell c) (and_parts (is_cell cell c) (number == k) event).0 not)
    in_place k (notes.Played c from to) not = tt
    in_place k (notes.Full c) not = tt

-- nor does a note of a full log change what is known of the order
pub walked_full : (cell c : Cell) (log : List Entry) (earlier : List (List Note)) (given : List Note)
    (old new : CellNotes)
    → new.next_number ≡ old.next_number
    → new.played_to ≡ old.played_to
    → new.misplaced ≡ old.misplaced
    → HasWalked cell log earlier given old
    → HasWalked cell log earlier (given ++ notes.Full c ∷ []) new
walked_full cell c log earlier given old new next played misplaced has =
    walked_quiet cell log earlier given (notes.Full c) old new (λ k. refl) (λ slot. refl) (λ k. tt) next played
    misplaced has

-- a range of the cell's played slots
pub walked_range : (cell c : Cell) (log : List Entry) (earlier : List (List Note)) (given : List Note) (from to : ℕ)
    (old new : CellNotes)
    → is_cell cell c ≡ true
    → new.next_number ≡ old.next_number
    → new.played_to ≡ max old.played_to to
    → new.misplaced ≡ old.misplaced
    → HasWalked cell log earlier given old
    → HasWalked cell log earlier (given ++ notes.Played c from to ∷ []) new
walked_range cell c log earlier given from to old new same next played misplaced has = record {
  below = all_with (λ n. is_below cell new.next_number n ≡ true) given note
      (subst (λ f. All (λ n. is_below cell f n ≡ true) given) (sym next) has.below) refl;
  lowest = λ k is. subst (λ f. f ≤ k) (sym next)
      (has.lowest k (all_last (λ n. is_below cell k n ≡ true) given note is).0);
  ended = all_with (λ n. is_ended cell new.played_to n ≡ true) given note
      (all_also (λ n. is_ended cell old.played_to n ≡ true) (λ n. is_ended cell new.played_to n ≡ true)
      (ended_later cell old.played_to new.played_to further) given has.ended)
      (ap (λ b. cond b (leb to new.played_to) true) same ∙ le-leb to new.played_to there);
  nearest = λ slot is. let parts = all_last (λ n. is_ended cell slot n ≡ true) given note is in
      both slot (has.nearest slot parts.0)
      (leb-true to slot (sym (ap (λ b. cond b (leb to slot) true) same) ∙ parts.1));
  first = subst (IsLeastFailing (Placed cell log earlier (given ++ note ∷ []))) (sym misplaced)
      (first_kept cell log earlier given note old.misplaced (λ k. tt) has.first);
}
  where
    note : Note
    note = notes.Played c from to

    further : old.played_to ≤ new.played_to
    further = omega (arith, played)

    there : to ≤ new.played_to
    there = omega (arith, played)

    both : (slot : ℕ) → old.played_to ≤ slot → to ≤ slot → new.played_to ≤ slot
    both slot one other = omega (arith, played)

-- an entry of the cell
pub walked_entry : (cell c : Cell) (log : List Entry) (earlier : List (List Note)) (given : List Note) (number : ℕ)
    (entry : Entry) (old new : CellNotes)
    → is_cell cell c ≡ true
    → new.next_number ≡ max old.next_number (number + 1)
    → new.played_to ≡ old.played_to
    → (IsNext old log number entry × (new.misplaced ≡ old.misplaced))
    ⊎ ((IsNext old log number entry → ⊥) × (new.misplaced ≡ lesser old.misplaced (Some number)))
    → HasWalked cell log earlier given old
    → HasWalked cell log earlier (given ++ notes.Event c number entry ∷ []) new
walked_entry cell c log earlier given number entry old new same next_is played misplaced has = record {
  below = all_with (λ n. is_below cell new.next_number n ≡ true) given note
      (all_also (λ n. is_below cell old.next_number n ≡ true) (λ n. is_below cell new.next_number n ≡ true)
      (below_more cell old.next_number new.next_number further) given has.below)
      (ap (λ b. cond b (ltb number new.next_number) true) same ∙ lt-ltb number new.next_number there);
  lowest = λ k is. let parts = all_last (λ n. is_below cell k n ≡ true) given note is in
      both k (has.lowest k parts.0) (ltb-true number k (sym (ap (λ b. cond b (ltb number k) true) same) ∙ parts.1));
  ended = all_with (λ n. is_ended cell new.played_to n ≡ true) given note
      (subst (λ r. All (λ n. is_ended cell r n ≡ true) given) (sym played) has.ended) refl;
  nearest = λ slot is. subst (λ r. r ≤ slot) (sym played)
      (has.nearest slot (all_last (λ n. is_ended cell slot n ≡ true) given note is).0);
  first = found misplaced;
}
  where
    note : Note
    note = notes.Event c number entry

    further : old.next_number ≤ new.next_number
    further = omega (arith, next_is)

    there : number < new.next_number
    there = omega (arith, next_is)

    both : (k : ℕ) → old.next_number ≤ k → number < k → new.next_number ≤ k
    both k one other = omega (arith, next_is)

    -- the entry is in its place exactly where it is the next
    placed : IsNext old log number entry → IsInPlace cell log given number entry
    placed next = record {
      stands = next.stands;
      rises = all_also (λ n. is_below cell old.next_number n ≡ true) (λ n. is_below cell number n ≡ true)
          (below_more cell old.next_number number next.rises) given has.below;
      follows = all_also (λ n. is_ended cell old.played_to n ≡ true) (λ n. is_ended cell entry.slot n ≡ true)
          (ended_later cell old.played_to entry.slot next.follows) given has.ended;
    }

    next : IsInPlace cell log given number entry → IsNext old log number entry
    next is = record {
      rises = has.lowest number is.rises;
      follows = has.nearest entry.slot is.follows;
      stands = is.stands;
    }

    is_event : is_event_at cell number note ≡ true
    is_event = and_from (is_cell cell c) (number == number) same (eq-eqb number number refl)

    no_event : (k : ℕ) → (k ≡ number → ⊥) → IsInPlaceAt cell log k given note
    no_event k other = λ is. absurd (other (sym (eqb-true number k (and_parts (is_cell cell c) (number == k) is).1)))

    at_number : IsInPlace cell log given number entry → (k : ℕ) → IsInPlaceAt cell log k given note
    at_number is k = λ event. subst (λ n. IsInPlace cell log given n entry)
        (eqb-true number k (and_parts (is_cell cell c) (number == k) event).1) is

    found : (IsNext old log number entry × (new.misplaced ≡ old.misplaced))
        ⊎ ((IsNext old log number entry → ⊥) × (new.misplaced ≡ lesser old.misplaced (Some number)))
        → IsLeastFailing (Placed cell log earlier (given ++ note ∷ [])) new.misplaced
    found (inl is) = subst (IsLeastFailing (Placed cell log earlier (given ++ note ∷ []))) (sym is.1)
        (first_kept cell log earlier given note old.misplaced (at_number (placed is.0)) has.first)
    found (inr not) = subst (IsLeastFailing (Placed cell log earlier (given ++ note ∷ []))) (sym not.1)
        (first_with (Placed cell log earlier given) (Placed cell log earlier (given ++ note ∷ [])) old.misplaced number
        (λ are. not.0 (next ((in_place_before cell log number [] given note are.1).1 is_event)))
        (λ k other are. (are.0, in_place_after cell log k [] given note are.1 (no_event k other)))
        (λ k are. (are.0, (in_place_before cell log k [] given note are.1).0)) has.first)
