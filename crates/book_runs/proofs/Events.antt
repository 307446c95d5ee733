-- The entries of a cell that a pass noted, with their numbers: they rise, and the log has them.
use Rattle.std.proofs.Common.{◌≡◌, ℕ, suc, ◌&&◌, Bool, true, false, cond, Some, List, [], ◌∷◌, ◌++◌, length}
use Rattle.std.proofs.Common.{eqb, filter, get_or, ltb, refl, ap, subst}
use Rattle.std.specs.List.{All, Contains, slice_get}
use Rattle.std.proofs.lemmas.Bool.{and_from, eq-eqb, ltb-true}
use Rattle.std.proofs.lemmas.List.Elements.{All-cons, All-contains, All-nil, Contains-append_left, Contains-push}
use Rattle.cbsp_wire.specs.declared.message.Cell.{Cell}
use Rattle.cbsp_wire.specs.Range.{is_cell}
use Rattle.bsc_table.specs.declared.entry.Entry.{Entry}
use Rattle.order_desk.specs.declared.note.Note.{Note}
use Rattle.order_desk.specs.declared.note.Note.TheVariants as notes
use Rattle.order_desk.specs.Agreement.{AreInPlaceAt, IsInPlace, IsInPlaceAt, is_below, is_event_at}
use Rattle.order_desk.specs.Agreement.{times_noted}
use Rattle.book_runs.specs.Sessions.{is_of_command}
use Rattle.book_runs.proofs.Numbered.{Rise, items_at, numbers_of}

-- a cell's entries among notes, each with its number
abbrev pub events_of : Cell → List Note → List (ℕ × Entry)
events_of cell [] = []
events_of cell (notes.Event c number entry ∷ later) =
    cond (is_cell cell c) ((number, entry) ∷ events_of cell later) (events_of cell later)
events_of cell (notes.Played c from to ∷ later) = events_of cell later
events_of cell (notes.Full c ∷ later) = events_of cell later

-- how many have a number is how often it was noted
pub times_of : (cell : Cell) (k : ℕ) (list : List Note)
    → length (items_at k (events_of cell list)) ≡ times_noted cell k list
times_of cell k [] = refl
times_of cell k (notes.Event c number entry ∷ later) = by_cell (is_cell cell c) (times_of cell k later)
  where
    by_number : (here : Bool) → length (items_at k (events_of cell later)) ≡ times_noted cell k later
        → length (cond here ((number, entry) ∷ items_at k (events_of cell later)) (items_at k (events_of cell later)))
        ≡ length (cond here (notes.Event c number entry ∷ filter (is_event_at cell k) later)
        (filter (is_event_at cell k) later))
    by_number true same = ap suc same
    by_number false same = same

    by_cell : (own : Bool) → length (items_at k (events_of cell later)) ≡ times_noted cell k later
        → length (items_at k (cond own ((number, entry) ∷ events_of cell later) (events_of cell later)))
        ≡ length (cond (own && eqb number k) (notes.Event c number entry ∷ filter (is_event_at cell k) later)
        (filter (is_event_at cell k) later))
    by_cell true same = by_number (eqb number k) same
    by_cell false same = same
times_of cell k (notes.Played c from to ∷ later) = times_of cell k later
times_of cell k (notes.Full c ∷ later) = times_of cell k later

-- notes of commands alone have all of them
pub events_kept : (cell : Cell) (list : List Note) → events_of cell (filter is_of_command list) ≡ events_of cell list
events_kept cell [] = refl
events_kept cell (notes.Event c number entry ∷ later) =
    ap (λ more. cond (is_cell cell c) ((number, entry) ∷ more) more) (events_kept cell later)
events_kept cell (notes.Played c from to ∷ later) = events_kept cell later
events_kept cell (notes.Full c ∷ later) = events_kept cell later

-- of notes in their places, the numbers of a cell's entries are above those of the entries noted before
in_place : (cell : Cell) (log : List Entry) (before : List Note) (c : Cell) (number : ℕ) (entry : Entry)
    → is_cell cell c ≡ true → IsInPlaceAt cell log number before (notes.Event c number entry)
    → IsInPlace cell log before number entry
in_place cell log before c number entry own placed =
    placed (and_from (is_cell cell c) (eqb number number) own (eq-eqb number number refl))

abbrev Placed : Cell → List Entry → (before later : List Note) → Type 0
Placed cell log before later = (k : ℕ) → AreInPlaceAt cell log k before later

are_above : (cell : Cell) (log : List Entry) (note : Note) (before later : List Note) → Contains before note
    → Placed cell log before later → All (λ m. is_below cell m note ≡ true) (numbers_of (events_of cell later))
are_above cell log note before [] among placed = All-nil (λ (m : ℕ). is_below cell m note ≡ true)
are_above cell log note before (notes.Event c number entry ∷ later) among placed =
    by_cell (is_cell cell c) refl
    (are_above cell log note (before ++ notes.Event c number entry ∷ []) later
    (Contains-append_left before (notes.Event c number entry ∷ []) note among) (λ k. (placed k).1))
  where
    by_cell : (own : Bool) → is_cell cell c ≡ own
        → All (λ m. is_below cell m note ≡ true) (numbers_of (events_of cell later))
        → All (λ m. is_below cell m note ≡ true)
        (numbers_of (cond own ((number, entry) ∷ events_of cell later) (events_of cell later)))
    by_cell true own rest =
        All-cons (λ (m : ℕ). is_below cell m note ≡ true) number (numbers_of (events_of cell later))
        (All-contains (λ (n : Note). is_below cell number n ≡ true) before note
        (in_place cell log before c number entry own (placed number).0).rises among) rest
    by_cell false other rest = rest
are_above cell log note before (notes.Played c from to ∷ later) among placed =
    are_above cell log note (before ++ notes.Played c from to ∷ []) later
    (Contains-append_left before (notes.Played c from to ∷ []) note among) (λ k. (placed k).1)
are_above cell log note before (notes.Full c ∷ later) among placed =
    are_above cell log note (before ++ notes.Full c ∷ []) later
    (Contains-append_left before (notes.Full c ∷ []) note among) (λ k. (placed k).1)

-- so they rise
pub events_rise : (cell : Cell) (log : List Entry) (before later : List Note) → Placed cell log before later
    → Rise (numbers_of (events_of cell later))
events_rise cell log before [] placed = tt
events_rise cell log before (notes.Event c number entry ∷ later) placed =
    let next : List Note = before ++ notes.Event c number entry ∷ [] in
    by_cell (is_cell cell c) refl
    (are_above cell log (notes.Event c number entry) next later (Contains-push before (notes.Event c number entry))
    (λ k. (placed k).1))
    (events_rise cell log next later (λ k. (placed k).1))
  where
    by_cell : (own : Bool) → is_cell cell c ≡ own
        → All (λ m. is_below cell m (notes.Event c number entry) ≡ true) (numbers_of (events_of cell later))
        → Rise (numbers_of (events_of cell later))
        → Rise (numbers_of (cond own ((number, entry) ∷ events_of cell later) (events_of cell later)))
    by_cell true own above rest = (
      λ k d within. ltb-true number (get_or (numbers_of (events_of cell later)) k d)
          (subst (λ b. cond b (ltb number (get_or (numbers_of (events_of cell later)) k d)) true ≡ true) own
          (above k d within)),
      rest,
    )
    by_cell false other above rest = rest
events_rise cell log before (notes.Played c from to ∷ later) placed =
    events_rise cell log (before ++ notes.Played c from to ∷ []) later (λ k. (placed k).1)
events_rise cell log before (notes.Full c ∷ later) placed =
    events_rise cell log (before ++ notes.Full c ∷ []) later (λ k. (placed k).1)

-- and the log has them
pub events_stand : (cell : Cell) (log : List Entry) (before later : List Note) → Placed cell log before later
    → All (λ x. slice_get log x.0 ≡ Some x.1) (events_of cell later)
events_stand cell log before [] placed = All-nil (λ (x : ℕ × Entry). slice_get log x.0 ≡ Some x.1)
events_stand cell log before (notes.Event c number entry ∷ later) placed =
    by_cell (is_cell cell c) refl
    (events_stand cell log (before ++ notes.Event c number entry ∷ []) later (λ k. (placed k).1))
  where
    by_cell : (own : Bool) → is_cell cell c ≡ own
        → All (λ x. slice_get log x.0 ≡ Some x.1) (events_of cell later)
        → All (λ x. slice_get log x.0 ≡ Some x.1)
        (cond own ((number, entry) ∷ events_of cell later) (events_of cell later))
    by_cell true own rest =
        All-cons (λ (x : ℕ × Entry). slice_get log x.0 ≡ Some x.1) (number, entry) (events_of cell later)
        (in_place cell log before c number entry own (placed number).0).stands rest
    by_cell false other rest = rest
events_stand cell log before (notes.Played c from to ∷ later) placed =
    events_stand cell log (before ++ notes.Played c from to ∷ []) later (λ k. (placed k).1)
events_stand cell log before (notes.Full c ∷ later) placed =
    events_stand cell log (before ++ notes.Full c ∷ []) later (λ k. (placed k).1)
