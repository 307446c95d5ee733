-- The steps of a cell (own): what each command and each play makes of its record.
use Rattle.std.specs.Prelude.{◌≡◌, ℕ, ◌+◌, ◌<◌, ◌≤◌, ◌==◌, ◌⊎◌, ⊤, Bool, true, false, not, min, if◌then◌else◌, None}
use Rattle.std.specs.Prelude.{List, [], ◌∷◌, ◌++◌, length, slice_index_or, All}
use Rattle.cbsp_wire.specs.declared.message.Cell.{Cell}
use Rattle.scheduler.specs.Air.{Air, IsChosen}
use Rattle.cbsp_wire.specs.declared.cause.TheConstants.{BSC_MEMORY_EXCEEDED}
use Rattle.bsc_table.specs.declared.command.Command.{Command}
use Rattle.bsc_table.specs.declared.entry.Answer.{Answer}
use Rattle.bsc_table.specs.declared.entry.Answer.TheVariants as answers
use Rattle.bsc_table.specs.declared.entry.Entry.{Entry}
use Rattle.bsc_table.specs.Record.{Record, messages_in}
use Rattle.bsc_table.specs.Answer.{answer_of}
use Rattle.bsc_table.specs.Orders.{IsWellFormed}
use Rattle.bsc_table.specs.Legal.{IsLegal}

-- the record of a cell that was opened for a run of this many slots
abbrev pub opened : Cell → ℕ → Record
opened cell slots = record { cell = cell; slots = slots; clock = 0; log = []; air = [] }

-- a record with one more entry
abbrev pub with_entry : Entry → Record → Record
with_entry e r = record r { log = r.log ++ e ∷ [] }

-- the next entry, of a command with its answer
abbrev pub entry_by : Record → Command → Answer → Entry
entry_by r command answer = record { command = command; slot = r.clock; answer = answer }

-- an answer has an entry, but for cause 08 and if the cell is out of memory
abbrev pub has_entry : Answer → Bool
has_entry (answers.Cause cause) = not (cause == BSC_MEMORY_EXCEEDED)
has_entry answers.Refused = false
has_entry other = true

-- a record after a command was answered: with an entry if the answer has one, and otherwise as it was
abbrev pub answered_with : Command → Answer → Record → Record
answered_with command answer r = if has_entry answer then with_entry (entry_by r command answer) r else r

-- a record after its slots up to this one were played: the air list has a place for each of them, each of those played
-- airs what the air rule says of the accepted messages, and nothing else has changed
pub record IsPlayedUpTo (slot : ℕ) (before after : Record) : Type 0 where
  pub same_cell : after.cell ≡ before.cell
  pub same_slots : after.slots ≡ before.slots
  pub same_log : after.log ≡ before.log
  pub clock_at : after.clock ≡ slot
  pub more_air : (more : Air) × (after.air ≡ before.air ++ more)
  pub places : length after.air ≡ slot
  pub by_rule : (at : ℕ) → before.clock ≤ at → at < slot
      → IsChosen (messages_in before.log) after.air at (slice_index_or after.air at None)

-- a step: a command that is asked, or a play of this many slots
pub data StepOfCell : Type 0 where
  Ask : Command → StepOfCell
  Play : ℕ → StepOfCell

-- the command of a step is one that a message of the warning centre can ask for, or a status
abbrev pub IsWellFormedStep : StepOfCell → Type 0
IsWellFormedStep (Ask command) = IsWellFormed command
IsWellFormedStep (Play k) = ⊤

-- what a step makes of a record. A command appends its entry, with the answer that the record gives, unless that is
-- cause 08; or it does nothing, if the cell is out of memory. A play adds its slots, or those up to the run's end
abbrev pub IsStep : StepOfCell → Record → Record → Type 0
IsStep (Ask command) before after =
    (answer : Answer)
    × ((answer ≡ answers.Refused)
    ⊎ (answer ≡ answer_of before.slots before.log before.air before.clock command))
    × (after ≡ answered_with command answer before)
IsStep (Play k) before after = IsPlayedUpTo (min (before.clock + k) before.slots) before after

-- and what steps make of it, one after the other
abbrev pub IsReached : List StepOfCell → Record → Record → Type 0
IsReached [] before after = after ≡ before
IsReached (step ∷ steps) before after = (next : Record) × IsStep step before next × IsReached steps next after

-- a new record is a legal history
abbrev pub OpenedAreLegal : Type 0
OpenedAreLegal = (cell : Cell) (slots : ℕ) → IsLegal (opened cell slots)

-- a step keeps a legal history legal
abbrev pub StepKeepsLegal : Type 0
StepKeepsLegal = (step : StepOfCell) (before after : Record)
    → IsWellFormedStep step
    → IsLegal before
    → IsStep step before after
    → IsLegal after

-- so whatever steps are taken from a new record on, the record that they reach is a legal history
abbrev pub StepsKeepLegal : Type 0
StepsKeepLegal = (cell : Cell) (slots : ℕ) (steps : List StepOfCell) (reached : Record)
    → All IsWellFormedStep steps
    → IsReached steps (opened cell slots) reached
    → IsLegal reached
