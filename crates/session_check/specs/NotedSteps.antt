-- Steps of reading answers off notes (own): what the cells of a message answered, by the notes of a pass. The contracts
-- of private functions alone speak of it. Where notes are named, they are those of commands.
use Rattle.std.specs.Prelude.{◌≡◌, ⊤, ℕ, true, false, Some, List, [], ◌∷◌, ◌++◌, map, filter, All}
use Rattle.std.specs.List.{slice_get}
use Rattle.cbsp_wire.specs.declared.cause.TheConstants.{BSC_MEMORY_EXCEEDED, CELL_IDENTITY_NOT_VALID}
use Rattle.cbsp_wire.specs.declared.message.Cell.{Cell}
use Rattle.cbsp_wire.specs.Range.{is_cell}
use Rattle.bsc_table.specs.declared.command.Command.{Command}
use Rattle.bsc_table.specs.declared.entry.Answer.{Answer}
use Rattle.bsc_table.specs.declared.entry.Answer.TheVariants as answers
use Rattle.bsc_table.specs.declared.entry.Entry.{Entry}
use Rattle.bsc_table.specs.Record.{Record}
use Rattle.order_desk.specs.declared.note.Note.{Note}
use Rattle.order_desk.specs.declared.note.Note.TheVariants as notes
use Rattle.book_runs.specs.Run.{Asked, is_among, given_slot}
use Rattle.book_runs.specs.Sessions.{IsNoteOf, is_of_command, slot_before}

-- the cells of records
abbrev pub record_cells : List Record → List Cell
record_cells records = map (λ r. r.cell) records

-- the notes of commands among some
abbrev pub commands_in : List Note → List Note
commands_in given = filter is_of_command given

-- an entry that was noted of a record's cell stands in its log at its number
abbrev pub StandsIn : Note → Record → Type 0
StandsIn (notes.Event cell number entry) r = is_cell cell r.cell ≡ true → slice_get r.log number ≡ Some entry
StandsIn (notes.Played cell from to) r = ⊤
StandsIn (notes.Full cell) r = ⊤

-- and so do all entries that were noted
abbrev pub AreStanding : List Record → List Note → Type 0
AreStanding records given = All (λ note. All (StandsIn note) records) given

-- the record of a cell: the first that is the cell's
pub record IsRecordOf (records : List Record) (cell : Cell) (r : Record) : Type 0 where
  pub before : List Record
  pub after : List Record
  pub split : records ≡ before ++ r ∷ after
  pub others : All (λ other. is_cell cell other.cell ≡ false) before
  pub own : is_cell cell r.cell ≡ true

-- what a cell is asked from a slot on, with an answer
abbrev pub asked_at : (at : ℕ) → Command → Answer → Asked
asked_at at command answer = record { at = at; command = command; answer = answer }

-- an entry is the one of a number in a record's log that a command asked from a slot on has, whatever the answer
pub record IsEntryOf (r : Record) (at : ℕ) (command : Command) (number : ℕ) (entry : Entry) : Type 0 where
  pub ordered : entry.command ≡ command
  pub placed : entry.slot ≡ given_slot r.slots (slot_before r.log number) at

-- a note says that the cell of a record gave a command that it was asked from a slot on this answer
abbrev pub NotesAnswer : Record → (at : ℕ) → Cell → Command → Note → Answer → Type 0
NotesAnswer r at cell command (notes.Event of number entry) answer =
    (of ≡ cell) × IsEntryOf r at command number entry × (entry.answer ≡ answer)
NotesAnswer r at cell command (notes.Played of from to) answer = ⊥
NotesAnswer r at cell command (notes.Full of) answer = (of ≡ cell) × (answer ≡ answers.Cause BSC_MEMORY_EXCEEDED)

-- the answer of one cell to a command, and the notes that are left after its own. A cell that isn't of the run is not
-- identified, and nothing is noted of it
pub record IsAnswerNoted (records : List Record) (at : ℕ) (command : Command) (given : Cell × Answer)
    (before left : List Note) : Type 0 where
  pub own : is_among (record_cells records) given.0 ≡ true
      → (note : Note) × (before ≡ note ∷ left) × IsNoteOf records (given.0, asked_at at command given.1) note
  pub foreign : is_among (record_cells records) given.0 ≡ false
      → (given.1 ≡ answers.Cause CELL_IDENTITY_NOT_VALID) × (left ≡ before)

-- and the answers of several, one after the other
abbrev pub AreAnswersNoted : List Record → (at : ℕ) → Command → List (Cell × Answer) → (before left : List Note)
    → Type 0
AreAnswersNoted records at command [] before left = left ≡ before
AreAnswersNoted records at command (given ∷ later) before left =
    (rest : List Note) × IsAnswerNoted records at command given before rest
    × AreAnswersNoted records at command later rest left
