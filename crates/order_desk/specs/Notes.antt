-- What is done in a cell, and the notes of it (own). A cell is seen as its record before and after.
use Rattle.std.specs.Prelude.{◌≡◌, ℕ, ◌+◌, min, max, nat_lt, if◌then◌else◌, Option, List, [], ◌∷◌, ◌++◌, length}
use Rattle.cbsp_wire.specs.declared.message.Cell.{Cell}
use Rattle.bsc_table.specs.declared.command.Command.{Command}
use Rattle.bsc_table.specs.declared.command.Command.TheVariants as commands
use Rattle.bsc_table.specs.declared.entry.Answer.{Answer}
use Rattle.bsc_table.specs.declared.entry.SlotRange.{SlotRange}
use Rattle.bsc_table.specs.declared.entry.State.{State}
use Rattle.bsc_table.specs.Answer.{answer_of, answer_with_status, status_of}
use Rattle.bsc_table.specs.Legal.{IsLegal}
use Rattle.bsc_table.specs.Record.{Record, message_named}
use Rattle.bsc_table.specs.Transitions.{IsPlayedUpTo, answered_with, entry_by, has_entry}
use Rattle.order_desk.specs.declared.note.Note.{Note}
use Rattle.order_desk.specs.declared.note.Note.TheVariants.{Event, Played, Full}

-- the record of a cell's run of this many slots, which is a legal history
pub record IsRunOf (cell : Cell) (slots : ℕ) (r : Record) : Type 0 where
  pub of_cell : r.cell ≡ cell
  pub run : r.slots ≡ slots
  pub legal : IsLegal r

-- the slot up to which an order from `at` on plays a cell whose clock stands at another: the later of the two, or the
-- run's end where that is less. So a clock past `at` stands
abbrev pub slot_of : (slots clock at : ℕ) → ℕ
slot_of slots clock at = min slots (max at clock)

-- the note of slots that were played, if there are some
abbrev pub range_notes : Cell → (from to : ℕ) → List Note
range_notes cell from to = if nat_lt from to then Played cell from to ∷ [] else []

-- the note of a command that a cell answered: its event, numbered by the length of the log before it; or, of an answer
-- that has no entry, that the log is full
abbrev pub command_note : Record → Command → Answer → Note
command_note r command answer =
    if has_entry answer then Event r.cell (length r.log) (entry_by r command answer) else Full r.cell

-- a cell answered a command by its log and its clock: this is its record after it, and the note
pub record IsAsked (command : Command) (answer : Answer) (before after : Record) (note : Note) : Type 0 where
  pub answered : answer ≡ answer_of before.slots before.log before.air before.clock command
  pub entered : after ≡ answered_with command answer before
  pub noted : note ≡ command_note before command answer

-- a cell was played up to the slot of an order from `at` on, and these are the notes of it: the range, if there is one
pub record IsPlayedFor (at : ℕ) (before after : Record) (notes : List Note) : Type 0 where
  pub played : IsPlayedUpTo (slot_of before.slots before.clock at) before after
  pub noted : notes ≡ range_notes before.cell before.clock after.clock

-- a cell served an order from `at` on: it was played up to its slot, and then answered the command
pub record IsOrderServed (at : ℕ) (command : Command) (answer : Answer) (before after : Record) (notes : List Note)
    : Type 0 where
  pub between : Record
  pub ranges : List Note
  pub note : Note
  pub played : IsPlayedFor at before between ranges
  pub asked : IsAsked command answer between after note
  pub noted : notes ≡ ranges ++ note ∷ []

-- a play of k slots, or of those up to the run's end, and its note, also of an empty range
pub record IsPlay (k : ℕ) (range : SlotRange) (before after : Record) (note : Note) : Type 0 where
  pub range_is : range ≡ record { from = before.clock; to = min (before.clock + k) before.slots }
  pub played : IsPlayedUpTo range.to before after
  pub noted : note ≡ Played before.cell range.from range.to

-- a status that was answered, and its note: what the cell tells of the message is what its entry says
pub record IsStatus (id serial : ℕ) (told : Option (ℕ × State)) (before after : Record) (note : Note) : Type 0 where
  pub status : told ≡ status_of before.air before.clock (message_named id serial before.log)
  pub asked : IsAsked (commands.Status id serial) (answer_with_status told) before after note
