-- Sessions of a book whose orders a desk has served (own): what each of them asks of the cells, what the cells answer,
-- and what its pass notes of it. The parts of a book are served by a session each.
use Rattle.std.specs.Prelude.{◌≡◌, ℕ, zero, suc, ◌<◌, ◌≤◌, Bool, true, false, if◌then◌else◌, Option, Some, None}
use Rattle.std.specs.Prelude.{List, [], ◌∷◌, map, filter, slice_index_or, All}
use Rattle.std.specs.List.{AllZip, flat_map, slice_get}
use Rattle.cbsp_wire.specs.declared.cause.TheConstants.{BSC_MEMORY_EXCEEDED}
use Rattle.cbsp_wire.specs.declared.message.Cell.{Cell}
use Rattle.cbsp_wire.specs.Range.{is_cell}
use Rattle.alert_book.specs.Book.{Contents}
use Rattle.alert_book.specs.Turns.{AreTurnsOf}
use Rattle.bsc_table.specs.declared.entry.Answer.TheVariants as answers
use Rattle.bsc_table.specs.declared.entry.Entry.{Entry}
use Rattle.bsc_table.specs.Record.{Record}
use Rattle.order_desk.specs.declared.note.Note.{Note}
use Rattle.order_desk.specs.declared.note.Note.TheVariants as notes
use Rattle.book_runs.specs.Run.{Asked, Exchange, IsExchange, asked_with, is_among, given_slot}

-- what a turn asks of the run's cells, each with its cell, in the order of the message; and what all turns ask of them
abbrev pub asks_in : List Cell → Exchange → List (Cell × Asked)
asks_in cells x = map (λ a. (a.0, asked_with x a)) (filter (λ a. is_among cells a.0) x.answers)

abbrev pub asks_of : List Cell → List Exchange → List (Cell × Asked)
asks_of cells exchanges = flat_map (asks_in cells) exchanges

-- whether a note is of a command: of its entry, or of a log without room for it
abbrev pub is_of_command : Note → Bool
is_of_command (notes.Event cell number entry) = true
is_of_command (notes.Played cell from to) = false
is_of_command (notes.Full cell) = true

-- the slot of an entry; 0 where there is none
abbrev pub slot_of_entry : Option Entry → ℕ
slot_of_entry None = 0
slot_of_entry (Some e) = e.slot

-- the slot of the entry before that of a number: where the clock stood, if nothing but commands had moved it
abbrev pub slot_before : List Entry → (number : ℕ) → ℕ
slot_before log zero = 0
slot_before log (suc number) = slot_of_entry (slice_get log number)

-- the slot of a command that a cell is asked from a slot on, whose entry has this number in the cell's log: the least
-- that is neither before that slot nor before the entry before it, or the run's end where that is less
abbrev pub slot_in : List Record → Cell → (number at : ℕ) → ℕ
slot_in [] cell number at = 0
slot_in (r ∷ later) cell number at =
    if is_cell cell r.cell then given_slot r.slots (slot_before r.log number) at else slot_in later cell number at

-- a note is of what a cell was asked: of the entry of the command, with the cell's answer, at its slot; or of the full
-- log of a cell that answered so
abbrev pub IsNoteOf : List Record → (Cell × Asked) → Note → Type 0
IsNoteOf records ask (notes.Event cell number entry) =
    (cell ≡ ask.0) × (entry ≡ record {
      command = ask.1.command;
      slot = slot_in records cell number ask.1.at;
      answer = ask.1.answer;
    })
IsNoteOf records ask (notes.Played cell from to) = ⊥
IsNoteOf records ask (notes.Full cell) = (cell ≡ ask.0) × (ask.1.answer ≡ answers.Cause BSC_MEMORY_EXCEEDED)

-- a pass is that of a session of a part of a book, which had these exchanges: of its commands it notes what the session
-- asked of the cells, in order, and nothing else
pub record IsSessionOf (book : Contents) (part parts : ℕ) (records : List Record) (pass : List Note)
    (exchanges : List Exchange) : Type 0 where
  pub turns : AreTurnsOf book part parts (map (λ x. x.turn) exchanges)
  pub exchanged : All (IsExchange book.cells) exchanges
  pub noted : AllZip (IsNoteOf records) (asks_of book.cells exchanges) (filter is_of_command pass)

-- the pass of this place is right: for each part of the book it is that of the part's session, and those after them
-- note no commands
pub record IsRightPass (book : Contents) (parts : ℕ) (records : List Record) (passes : List (List Note)) (place : ℕ)
    : Type 0 where
  pub own : place < parts
      → (exchanges : List Exchange) × IsSessionOf book place parts records (slice_index_or passes place []) exchanges
  pub later : parts ≤ place → filter is_of_command (slice_index_or passes place []) ≡ []

-- each pass is right
abbrev pub AreSessions : Contents → (parts : ℕ) → List Record → List (List Note) → Type 0
AreSessions book parts records passes = (place : ℕ) → IsRightPass book parts records passes place
