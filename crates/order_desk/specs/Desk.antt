-- What the calls of a desk do (own). What a lock holds is known by its type alone: some record that is a legal history.
-- So a call says that there is such a record of its cell, and its pass shows what was made of it.
use Rattle.std.specs.Prelude.{◌≡◌, ◌≢◌, ◌⊎◌, ℕ, ◌<◌, Bool, true, false, Option, Some, Ok, Err}
use Rattle.std.specs.Prelude.{List, [], ◌∷◌, ◌++◌, length, take}
use Rattle.std.specs.List.{slice_get}
use Rattle.cbsp_wire.specs.declared.cause.TheConstants.{BSC_MEMORY_EXCEEDED, CELL_IDENTITY_NOT_VALID}
use Rattle.cbsp_wire.specs.declared.fault.WireFault.TheVariants as wire
use Rattle.cbsp_wire.specs.declared.message.Cell.{Cell}
use Rattle.cbsp_wire.specs.declared.message.Message.{Message}
use Rattle.cbsp_wire.specs.Meaning.{IsMessage}
use Rattle.cbsp_wire.specs.CellLists.{contains}
use Rattle.cbsp_wire.specs.Refusals.{first_fault, reported_fault}
use Rattle.cbsp_wire.specs.Written.{octets_of_message}
use Rattle.bsc_table.specs.declared.command.Command.{Command}
use Rattle.bsc_table.specs.declared.command.Command.TheVariants as commands
use Rattle.bsc_table.specs.declared.entry.Answer.{Answer}
use Rattle.bsc_table.specs.declared.entry.Answer.TheVariants as answers
use Rattle.bsc_table.specs.declared.entry.SlotRange.{SlotRange}
use Rattle.bsc_table.specs.declared.entry.State.{State}
use Rattle.bsc_table.specs.Orders.{order_of}
use Rattle.bsc_table.specs.Record.{Record}
use Rattle.order_desk.specs.declared.fault.DeskFault.{DeskFault}
use Rattle.order_desk.specs.declared.fault.DeskFault.TheVariants as faults
use Rattle.order_desk.specs.declared.note.Note.{Note}
use Rattle.order_desk.specs.declared.note.Note.TheVariants.{Full}
use Rattle.order_desk.specs.Notes.{IsAsked, IsPlay, IsPlayedFor, IsRunOf, IsOrderServed}
use Rattle.order_desk.specs.Notes.{IsStatus}
use Rattle.order_desk.specs.Reply.{cells_answered, reply_message}

-- a desk: its cells, and how many slots the run of each has
pub record DeskState : Type 0 where
  pub cells : List Cell
  pub slots : ℕ

-- whether a cell is of the desk
abbrev pub has_cell : DeskState → Cell → Bool
has_cell desk cell = contains desk.cells cell

-- what the lock of a cell of the desk held: a legal history of that cell's run
abbrev pub IsHeld : DeskState → Cell → Record → Type 0
IsHeld desk cell r = IsRunOf cell desk.slots r

-- a cell of an order's list has answered, and these are the notes of it. A cell of the desk served the order; another
-- one is not identified, and nothing is noted
pub record IsAnswered (desk : DeskState) (at : ℕ) (command : Command) (cell : Cell) (answer : Answer)
    (notes : List Note)
    : Type 0 where
  pub own : has_cell desk cell ≡ true → (before after : Record)
      × IsHeld desk cell before × IsHeld desk cell after × IsOrderServed at command answer before after notes
  pub foreign : has_cell desk cell ≡ false → (answer ≡ answers.Cause CELL_IDENTITY_NOT_VALID) × (notes ≡ [])

-- the cells of a list have answered one after the other, and these are the notes of it, in their order
abbrev pub AreAnswered : DeskState → (at : ℕ) → Command → List (Cell × Answer) → List Note → Type 0
AreAnswered desk at command [] notes = notes ≡ []
AreAnswered desk at command (first ∷ later) notes =
    (own rest : List Note) × (notes ≡ own ++ rest)
    × IsAnswered desk at command first.0 first.1 own × AreAnswered desk at command later rest

-- what a call adds to the notes of its pass
abbrev pub AddsNotes : (old new : List Note) → (List Note → Type 0) → Type 0
AddsNotes old new Are = (added : List Note) × Are added × (new ≡ old ++ added)

-- a call adds one note
abbrev pub AddsNote : (old new : List Note) → (Note → Type 0) → Type 0
AddsNote old new Is = (note : Note) × Is note × (new ≡ old ++ note ∷ [])

-- octets are a message that orders a command of these cells
pub record IsOrderOf (octets : List ℕ) (cells : List Cell) (command : Command) : Type 0 where
  pub message : Message
  pub meant : IsMessage octets message
  pub ordered : order_of message ≡ Ok (cells, command)

-- an order was carried out from the slot `at` on: each cell that it names has answered, and the reply is that of the
-- answers that were noted, with cause 08 for a full log and 03 for a cell that isn't of the desk
pub record IsCarriedOut (desk : DeskState) (at : ℕ) (octets reply : List ℕ) (notes : List Note) : Type 0 where
  pub command : Command
  pub answers : List (Cell × Answer)
  pub order : IsOrderOf octets (cells_answered answers) command
  pub answered : AreAnswered desk at command answers notes
  pub replied : reply ≡ octets_of_message (reply_message command answers)
  pub meant : IsMessage reply (reply_message command answers)

-- of one more cell that didn't answer at most a play was noted
abbrev pub IsAtMostPlayed : DeskState → (at : ℕ) → Cell → List Note → Type 0
IsAtMostPlayed desk at cell notes =
    (notes ≡ []) ⊎ ((before after : Record)
    × (has_cell desk cell ≡ true) × IsHeld desk cell before × IsHeld desk cell after
    × IsPlayedFor at before after notes)

-- the cells of a list before this place have answered, and that is all that was noted
pub record HaveAnswered (desk : DeskState) (at : ℕ) (cells : List Cell) (command : Command) (place : ℕ)
    (notes : List Note)
    : Type 0 where
  pub answers : List (Cell × Answer)
  pub first : cells_answered answers ≡ take place cells
  pub within : place < length cells
  pub answered : AreAnswered desk at command answers notes

-- an order ended while the cell at this place of its list, a cell of the desk, was served: those before it have
-- answered
pub record IsCutShort (desk : DeskState) (at : ℕ) (cells : List Cell) (command : Command) (place : ℕ)
    (notes : List Note)
    : Type 0 where
  pub noted : List Note
  pub rest : List Note
  pub cell : Cell
  pub first : HaveAnswered desk at cells command place noted
  pub next : slice_get cells place ≡ Some cell
  pub own : has_cell desk cell ≡ true
  pub at_most_played : IsAtMostPlayed desk at cell rest
  pub notes_are : notes ≡ noted ++ rest

-- an order ended at the cell at this place of its list, a cell of the desk, of which nothing is noted: those before it
-- have answered
pub record IsStopped (desk : DeskState) (at : ℕ) (cells : List Cell) (command : Command) (place : ℕ) (notes : List Note)
    : Type 0 where
  pub cell : Cell
  pub first : HaveAnswered desk at cells command place notes
  pub next : slice_get cells place ≡ Some cell
  pub own : has_cell desk cell ≡ true

-- octets are no order, for this fault, or it was out of memory
abbrev pub IsNoOrder : List ℕ → DeskFault → Type 0
IsNoOrder octets (faults.Wire fault) = (fault ≢ wire.Refused) × (first_fault octets ≡ reported_fault fault)
IsNoOrder octets (faults.Cause cause) = (m : Message) × IsMessage octets m × (order_of m ≡ Err cause)
IsNoOrder octets (faults.Memory done) = (done ≡ 0) × ((m : Message) × IsMessage octets m)
IsNoOrder octets faults.Unknown = ⊥
IsNoOrder octets faults.Full = ⊥

-- an order ended with this fault after these notes. A lock that holds a book of another cell ends it at that cell,
-- which is one of the desk: a cell that isn't of the desk is answered, and the order goes on
abbrev pub IsRefusedOrder : DeskState → (at : ℕ) → List ℕ → DeskFault → List Note → Type 0
IsRefusedOrder desk at octets (faults.Wire fault) notes = IsNoOrder octets (faults.Wire fault) × (notes ≡ [])
IsRefusedOrder desk at octets (faults.Cause cause) notes = IsNoOrder octets (faults.Cause cause) × (notes ≡ [])
IsRefusedOrder desk at octets (faults.Memory done) notes =
    (IsNoOrder octets (faults.Memory done) × (notes ≡ []))
    ⊎ ((cells : List Cell) × (command : Command)
    × IsOrderOf octets cells command × IsCutShort desk at cells command done notes)
IsRefusedOrder desk at octets faults.Unknown notes =
    (cells : List Cell) × (command : Command) × (place : ℕ)
    × IsOrderOf octets cells command × IsStopped desk at cells command place notes
IsRefusedOrder desk at octets faults.Full notes = ⊥

-- a cell of the desk was played
pub record IsPlayed (desk : DeskState) (cell : Cell) (k : ℕ) (range : SlotRange) (note : Note) : Type 0 where
  pub own : has_cell desk cell ≡ true
  pub before : Record
  pub after : Record
  pub held : IsHeld desk cell before
  pub left : IsHeld desk cell after
  pub play : IsPlay k range before after note

-- a cell of the desk told the status of a message
pub record IsTold (desk : DeskState) (cell : Cell) (id serial : ℕ) (told : Option (ℕ × State)) (note : Note) : Type 0
  where
    pub own : has_cell desk cell ≡ true
    pub before : Record
    pub after : Record
    pub held : IsHeld desk cell before
    pub left : IsHeld desk cell after
    pub status : IsStatus id serial told before after note

-- why a play was refused, with nothing noted: the cell isn't of the desk, or its lock holds a book of another; or
-- it was out of memory
abbrev pub IsRefusedPlay : DeskState → Cell → DeskFault → List Note → Type 0
IsRefusedPlay desk cell faults.Unknown notes = notes ≡ []
IsRefusedPlay desk cell (faults.Memory done) notes = (has_cell desk cell ≡ true) × (done ≡ 0) × (notes ≡ [])
IsRefusedPlay desk cell (faults.Wire fault) notes = ⊥
IsRefusedPlay desk cell (faults.Cause cause) notes = ⊥
IsRefusedPlay desk cell faults.Full notes = ⊥

-- why a status was refused: so too, or because the log has no room for its entry, which is noted
abbrev pub IsRefusedStatus : DeskState → Cell → (id serial : ℕ) → DeskFault → List Note → Type 0
IsRefusedStatus desk cell id serial faults.Full notes =
    (has_cell desk cell ≡ true)
    × ((before : Record) × IsHeld desk cell before
    × IsAsked (commands.Status id serial) (answers.Cause BSC_MEMORY_EXCEEDED) before before (Full cell))
    × (notes ≡ Full cell ∷ [])
IsRefusedStatus desk cell id serial faults.Unknown notes = notes ≡ []
IsRefusedStatus desk cell id serial (faults.Memory done) notes =
    (has_cell desk cell ≡ true) × (done ≡ 0) × (notes ≡ [])
IsRefusedStatus desk cell id serial (faults.Wire fault) notes = ⊥
IsRefusedStatus desk cell id serial (faults.Cause cause) notes = ⊥
