-- The settlement of a closed desk with the passes of those who worked at it (own): the records of its cells, or the
-- first thing that was noted and isn't so, or is so and wasn't noted.
use Rattle.std.specs.Prelude.{◌≡◌, ⊤, ◌⊎◌, ℕ, ◌<◌, Bool, true, false}
use Rattle.std.specs.Prelude.{List, ◌∷◌, ◌++◌, length, slice_index_or, All}
use Rattle.std.specs.List.{AllZip}
use Rattle.cbsp_wire.specs.declared.message.Cell.{Cell}
use Rattle.cbsp_wire.specs.CellLists.{contains}
use Rattle.bsc_table.specs.Legal.{IsLegal}
use Rattle.bsc_table.specs.Record.{Record}
use Rattle.bsc_table.specs.Transitions.{IsPlayedUpTo}
use Rattle.order_desk.specs.declared.note.Note.{Note}
use Rattle.order_desk.specs.declared.note.Note.TheVariants as notes
use Rattle.order_desk.specs.declared.settle.SettleFault.{SettleFault}
use Rattle.order_desk.specs.declared.settle.SettleFault.TheVariants as faults
use Rattle.order_desk.specs.Agreement.{IsRightNumber, IsRightSlot, Agrees}

-- a desk that was closed: its cells, the slots of their runs, and a book for each cell, as its record
pub record ClosedDesk : Type 0 where
  pub cells : List Cell
  pub slots : ℕ
  pub books : List Record

-- the cell of a note, and the number that is told of it: 4,096 for a note without one
abbrev pub cell_of : Note → Cell
cell_of (notes.Event cell number entry) = cell
cell_of (notes.Played cell from to) = cell
cell_of (notes.Full cell) = cell

abbrev pub number_of : Note → ℕ
number_of (notes.Event cell number entry) = number
number_of (notes.Played cell from to) = 4096
number_of (notes.Full cell) = 4096

-- whether a note is of one of these cells
abbrev pub is_of_cells : List Cell → Note → Bool
is_of_cells cells note = contains cells (cell_of note)

-- the first note of no cell of the desk: all notes before it are of the desk's cells
pub record IsFirstForeign (cells : List Cell) (passes : List (List Note)) (note : Note) : Type 0 where
  pub earlier : List (List Note)
  pub before : List Note
  pub after : List Note
  pub later : List (List Note)
  pub noted : passes ≡ earlier ++ (before ++ note ∷ after) ∷ later
  pub own_passes : All (All (λ n. is_of_cells cells n ≡ true)) earlier
  pub own_notes : All (λ n. is_of_cells cells n ≡ true) before
  pub foreign : is_of_cells cells note ≡ false

-- each note is of one of the desk's cells
abbrev pub AreOwn : List Cell → List (List Note) → Type 0
AreOwn cells passes = All (All (λ n. is_of_cells cells n ≡ true)) passes

-- a book is that of the cell in its place, for a run of the desk's slots
abbrev pub IsBookOf : (slots : ℕ) → Cell → Record → Type 0
IsBookOf slots cell r = (r.cell ≡ cell) × (r.slots ≡ slots)

-- the cell of the first place whose book isn't
pub record IsFirstWrong (desk : ClosedDesk) (cell : Cell) : Type 0 where
  pub place : ℕ
  pub within : place < length desk.books
  pub of_place : (d : Cell) → slice_index_or desk.cells place d ≡ cell
  pub wrong : (d : Record) → IsBookOf desk.slots cell (slice_index_or desk.books place d) → ⊥
  pub before : (k : ℕ) (c : Cell) (d : Record) → k < place
      → IsBookOf desk.slots (slice_index_or desk.cells k c) (slice_index_or desk.books k d)

-- the least number at which something isn't right, and, where all numbers are right, the least such slot
pub record IsStrangeAt (passes : List (List Note)) (r : Record) (k : ℕ) : Type 0 where
  pub wrong : IsRightNumber r.cell r.log passes k → ⊥
  pub least : (lesser : ℕ) → lesser < k → IsRightNumber r.cell r.log passes lesser

pub record OverlapsAt (passes : List (List Note)) (r : Record) (slot : ℕ) : Type 0 where
  pub numbers : (k : ℕ) → IsRightNumber r.cell r.log passes k
  pub wrong : IsRightSlot r.cell r.clock passes slot → ⊥
  pub least : (lesser : ℕ) → lesser < slot → IsRightSlot r.cell r.clock passes lesser

-- the first cell of the desk with whose record the notes don't agree
pub record IsFirstStrange (desk : ClosedDesk) (passes : List (List Note)) (r : Record) : Type 0 where
  pub own : AreOwn desk.cells passes
  pub right : AllZip (IsBookOf desk.slots) desk.cells desk.books
  pub before : List Record
  pub later : List Record
  pub books : desk.books ≡ before ++ r ∷ later
  pub agree : All (Agrees passes) before

-- why a settlement isn't made: before all the first note of a foreign cell, then the first book that isn't that of its
-- place, then of the first cell that the notes don't agree with the least number, and else the least slot. It may run
-- out of memory at any point
abbrev pub IsFault : ClosedDesk → List (List Note) → SettleFault → Type 0
IsFault desk passes (faults.Strange cell number) =
    ((note : Note) × IsFirstForeign desk.cells passes note × (cell_of note ≡ cell) × (number_of note ≡ number))
    ⊎ ((AreOwn desk.cells passes × IsFirstWrong desk cell × (number ≡ 4096))
    ⊎ ((r : Record) × IsFirstStrange desk passes r × (r.cell ≡ cell) × IsStrangeAt passes r number))
IsFault desk passes (faults.Overlap cell slot) =
    (r : Record) × IsFirstStrange desk passes r × (r.cell ≡ cell) × OverlapsAt passes r slot
IsFault desk passes (faults.Session part) = ⊥
IsFault desk passes faults.Refused = ⊤

-- a run was played to its end
pub record IsPlayedOut (before after : Record) : Type 0 where
  pub played : IsPlayedUpTo before.slots before after
  pub legal : IsLegal after

-- the settlement is made: the books are those of the desk's cells, all notes are of them, and agree with each; the
-- records are the books, played out
pub record IsSettled (desk : ClosedDesk) (passes : List (List Note)) (records : List Record) : Type 0 where
  pub own : AreOwn desk.cells passes
  pub right : AllZip (IsBookOf desk.slots) desk.cells desk.books
  pub agree : All (Agrees passes) desk.books
  pub played : AllZip IsPlayedOut desk.books records
