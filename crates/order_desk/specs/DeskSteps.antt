-- Steps of a desk's calls (own). The contracts of private functions alone speak of it.
use Rattle.std.specs.Prelude.{◌≡◌, ℕ, ◌≤◌, true, List, [], ◌∷◌, length, vec_capacity, vec_len}
use Rattle.cbsp_wire.specs.declared.message.Cell.{Cell}
use Rattle.cbsp_wire.specs.declared.cause.TheConstants.{BSC_MEMORY_EXCEEDED}
use Rattle.cbsp_wire.specs.Range.{cells_are_valid}
use Rattle.bsc_table.specs.declared.command.Command.{Command}
use Rattle.bsc_table.specs.declared.command.Command.TheVariants as commands
use Rattle.bsc_table.specs.declared.entry.Answer.TheVariants as answers
use Rattle.bsc_table.specs.Orders.{IsWellFormed}
use Rattle.bsc_table.specs.Record.{Record}
use Rattle.order_desk.specs.declared.fault.DeskFault.{DeskFault}
use Rattle.order_desk.specs.declared.fault.DeskFault.TheVariants as faults
use Rattle.order_desk.specs.declared.note.Note.{Note}
use Rattle.order_desk.specs.declared.note.Note.TheVariants.{Full}
use Rattle.order_desk.specs.declared.desk.order.CellFault.{CellFault}
use Rattle.order_desk.specs.declared.desk.order.CellFault.TheVariants as halts
use Rattle.order_desk.specs.declared.desk.order.PreparedOrder.{PreparedOrder}
use Rattle.order_desk.specs.Desk.{DeskState, IsAtMostPlayed, IsCutShort, IsOrderOf, IsStopped, has_cell}
use Rattle.order_desk.specs.Notes.{IsAsked, IsPlayedFor, IsRunOf}
use Rattle.order_desk.specs.ReplySteps.{HasReplyRoom}

-- why a cell didn't tell a status, and what is noted: its log has no room for the entry, or out of memory
abbrev pub IsUntold : (id serial : ℕ) → DeskFault → (before after : Record) → List Note → Type 0
IsUntold id serial faults.Full before after notes =
    IsAsked (commands.Status id serial) (answers.Cause BSC_MEMORY_EXCEEDED) before after (Full before.cell)
    × (notes ≡ Full before.cell ∷ [])
IsUntold id serial (faults.Memory done) before after notes = (done ≡ 0) × (after ≡ before) × (notes ≡ [])
IsUntold id serial faults.Unknown before after notes = ⊥
IsUntold id serial (faults.Wire fault) before after notes = ⊥
IsUntold id serial (faults.Cause cause) before after notes = ⊥

-- an order that was read, before anything is done: its cells and its command, and all the room that they take
pub record IsPrepared (octets : List ℕ) (order : PreparedOrder) : Type 0 where
  pub order_is : IsOrderOf octets order.cells.items order.command
  pub valid : cells_are_valid order.cells.items ≡ true
  pub formed : IsWellFormed order.command
  pub no_answers : order.answers.items ≡ []
  pub room_for_answers : vec_len order.cells ≤ vec_capacity order.answers
  pub room_for_reply : HasReplyRoom (length order.cells.items) order.room

-- a cell of the desk gave an order no answer, after these notes: because memory ran out after a play at most, or
-- because the cell's lock held a book of another cell
abbrev pub IsHalted : DeskState → (at : ℕ) → Cell → CellFault → List Note → Type 0
IsHalted desk at cell halts.Refused notes = (has_cell desk cell ≡ true) × IsAtMostPlayed desk at cell notes
IsHalted desk at cell halts.WrongBook notes = (has_cell desk cell ≡ true) × (notes ≡ [])

-- the same by the book that was lent for the cell
abbrev pub IsGivenUp : CellFault → (slots at : ℕ) → Cell → (before after : Record) → List Note → Type 0
IsGivenUp halts.Refused slots at cell before after notes = IsRunOf cell slots before × IsPlayedFor at before after notes
IsGivenUp halts.WrongBook slots at cell before after notes = notes ≡ []

-- an order to cells ended with a fault
abbrev pub AreHalted : DeskState → (at : ℕ) → List Cell → Command → DeskFault → List Note → Type 0
AreHalted desk at cells command (faults.Memory done) notes = IsCutShort desk at cells command done notes
AreHalted desk at cells command faults.Unknown notes = (place : ℕ) × IsStopped desk at cells command place notes
AreHalted desk at cells command faults.Full notes = ⊥
AreHalted desk at cells command (faults.Wire fault) notes = ⊥
AreHalted desk at cells command (faults.Cause cause) notes = ⊥
