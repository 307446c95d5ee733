-- Steps of a settlement (own). The contracts of private functions alone speak of them.
use Rattle.std.specs.Prelude.{◌≡◌, ⊤, ℕ, ◌<◌, ◌≤◌, ◌&&◌, Bool, true, false, min, nat_le, nat_lt, Option, Some, None}
use Rattle.std.specs.Prelude.{List, [], ◌∷◌, ◌++◌, length, filter, slice_index_or, All}
use Rattle.std.specs.List.{list_all, list_any, slice_get}
use Rattle.cbsp_wire.specs.declared.message.Cell.{Cell}
use Rattle.cbsp_wire.specs.Range.{is_cell}
use Rattle.bsc_table.specs.declared.entry.Entry.{Entry}
use Rattle.bsc_table.specs.declared.entry.SlotRange.{SlotRange}
use Rattle.bsc_table.specs.Record.{Record}
use Rattle.order_desk.specs.declared.note.Note.{Note}
use Rattle.order_desk.specs.declared.settle.cell_notes.CellNotes.{CellNotes}
use Rattle.order_desk.specs.declared.settle.SettleFault.{SettleFault}
use Rattle.order_desk.specs.declared.settle.SettleFault.TheVariants as faults
use Rattle.order_desk.specs.Agreement.{all_notes, is_below, is_ended, is_event_at, is_full_of, times_played}
use Rattle.order_desk.specs.Agreement.{AreInPlaceAt, Agrees}
use Rattle.order_desk.specs.Settled.{IsFirstForeign, IsStrangeAt, OverlapsAt, cell_of, is_of_cells, number_of}

-- the first number at which something isn't right, if there is one
abbrev pub IsLeastFailing : (ℕ → Type 0) → Option ℕ → Type 0
IsLeastFailing right None = (k : ℕ) → right k
IsLeastFailing right (Some k) = (right k → ⊥) × ((lesser : ℕ) → lesser < k → right lesser)

-- the lesser of two numbers, as far as there are any
abbrev pub lesser : Option ℕ → Option ℕ → Option ℕ
lesser None other = other
lesser (Some one) None = Some one
lesser (Some one) (Some other) = Some (min one other)

-- whether a note is of this cell
abbrev pub is_note_of : Cell → Note → Bool
is_note_of cell note = is_cell cell (cell_of note)

-- whether a range has a slot, and whether it ends by one
abbrev pub has_slot : ℕ → SlotRange → Bool
has_slot slot range = nat_le range.from slot && nat_lt slot range.to

abbrev pub ends_by : ℕ → SlotRange → Bool
ends_by slot range = nat_le range.to slot

-- ranges have each slot as often as others have it, and end by the same slots
pub record AreLike (one other : List SlotRange) : Type 0 where
  pub slots : (slot : ℕ) → length (filter (has_slot slot) one) ≡ length (filter (has_slot slot) other)
  pub ends : (slot : ℕ) → list_all (ends_by slot) one ≡ list_all (ends_by slot) other

-- the ranges that are kept of a cell's notes
abbrev pub ranges_of : CellNotes → List SlotRange
ranges_of notes = notes.ranges.items ++ notes.last ∷ []

-- how many of some items stand for each place, told up to 255
abbrev pub AreTimes : {X : Type 0} → (ℕ → X → Bool) → List X → List ℕ → Type 0
AreTimes stands given times = (place : ℕ) → place < length times
    → slice_index_or times place 0 ≡ min (length (filter (stands place) given)) 255

-- what is kept of a cell's notes by their kinds: how often each number was noted, ranges that have each slot as often
-- as it was noted, and end where the noted ones do, and whether the log was noted as full
pub record HasKept (cell : Cell) (given : List Note) (notes : CellNotes) : Type 0 where
  pub noted : AreTimes (is_event_at cell) given notes.times_noted.items
  pub played : (slot : ℕ) → length (filter (has_slot slot) (ranges_of notes)) ≡ times_played cell slot given
  pub ended : (slot : ℕ) → list_all (ends_by slot) (ranges_of notes) ≡ list_all (is_ended cell slot) given
  pub full : notes.is_full ≡ list_any (is_full_of cell) given

-- what is kept of their order, after some passes and what the pass under way has noted so far: of that pass the least
-- bound above the cell's numbers, and above the ends of its ranges; and of all the least number that isn't in its place
pub record HasWalked (cell : Cell) (log : List Entry) (earlier : List (List Note)) (given : List Note)
    (notes : CellNotes) : Type 0 where
  pub below : All (λ note. is_below cell notes.next_number note ≡ true) given
  pub lowest : (k : ℕ) → All (λ note. is_below cell k note ≡ true) given → notes.next_number ≤ k
  pub ended : All (λ note. is_ended cell notes.played_to note ≡ true) given
  pub nearest : (slot : ℕ) → All (λ note. is_ended cell slot note ≡ true) given → notes.played_to ≤ slot
  pub first : IsLeastFailing (λ k. All (AreInPlaceAt cell log k []) earlier × AreInPlaceAt cell log k [] given)
      notes.misplaced

-- an entry that is noted next is in its place
pub record IsNext (notes : CellNotes) (log : List Entry) (k : ℕ) (entry : Entry) : Type 0 where
  pub rises : notes.next_number ≤ k
  pub follows : notes.played_to ≤ entry.slot
  pub stands : slice_get log k ≡ Some entry

-- what was noted of the cell of a record, by some passes and by the one under way so far
pub record HasNoted (r : Record) (earlier : List (List Note)) (given : List Note) (notes : CellNotes) : Type 0 where
  pub places : length notes.times_noted.items ≡ length r.log
  pub kept : HasKept r.cell (all_notes earlier ++ given) notes
  pub walked : HasWalked r.cell r.log earlier given notes

-- and of the cell of each record, in their order
pub record AreNoted (books : List Record) (earlier : List (List Note)) (given : List Note) (noted : List CellNotes)
    : Type 0 where
  pub places : length noted ≡ length books
  pub each : (place : ℕ) (r : Record) (n : CellNotes) → place < length books
      → HasNoted (slice_index_or books place r) earlier given (slice_index_or noted place n)

-- a book is this cell's
abbrev pub IsOfCell : Cell → Record → Type 0
IsOfCell cell r = r.cell ≡ cell

-- a fault tells the first note of a pass that is of no cell of the desk
pub record IsForeignIn (cells : List Cell) (given : List Note) (fault : SettleFault) : Type 0 where
  pub before : List Note
  pub note : Note
  pub after : List Note
  pub noted : given ≡ before ++ note ∷ after
  pub own : All (λ n. is_of_cells cells n ≡ true) before
  pub foreign : is_of_cells cells note ≡ false
  pub told : fault ≡ faults.Strange (cell_of note) (number_of note)

-- and the first one of all passes
abbrev pub IsForeignBy : List Cell → List (List Note) → SettleFault → Type 0
IsForeignBy cells passes fault = (note : Note) × IsFirstForeign cells passes note
    × (fault ≡ faults.Strange (cell_of note) (number_of note))

-- why a cell's notes don't agree with its record
abbrev pub IsStrangeBy : List (List Note) → Record → SettleFault → Type 0
IsStrangeBy passes r (faults.Strange cell number) = (r.cell ≡ cell) × IsStrangeAt passes r number
IsStrangeBy passes r (faults.Overlap cell slot) = (r.cell ≡ cell) × OverlapsAt passes r slot
IsStrangeBy passes r (faults.Session part) = ⊥
IsStrangeBy passes r faults.Refused = ⊤

-- and of the first cell, in order, with which they don't
pub record IsFirstJudged (passes : List (List Note)) (books : List Record) (fault : SettleFault) : Type 0 where
  pub before : List Record
  pub judged : Record
  pub later : List Record
  pub all : books ≡ before ++ judged ∷ later
  pub agree : All (Agrees passes) before
  pub strange : IsStrangeBy passes judged fault
