-- What a reply says of the cells that answered. Own.
use Rattle.std.specs.Prelude.{◌≡◌, ℕ, ◌<◌, ⊤, true, false, List, ◌∷◌, ◌++◌, length}
use Rattle.cbsp_wire.specs.declared.message.Cell.{Cell}
use Rattle.cbsp_wire.specs.CellLists.{contains}
use Rattle.cbsp_wire.specs.Range.{cells_of_failures}
use Rattle.scheduler.specs.Air.{Air}
use Rattle.bsc_table.specs.declared.command.Command.{Command}
use Rattle.bsc_table.specs.declared.command.Command.TheVariants as commands
use Rattle.bsc_table.specs.declared.entry.Entry.{Entry}
use Rattle.bsc_table.specs.Answer.{answer_of}
use Rattle.bsc_table.specs.Transitions.{has_entry}
use Rattle.bsc_table.specs.declared.entry.Answer.{Answer}
use Rattle.bsc_table.specs.declared.entry.Answer.TheVariants as answers
use Rattle.order_desk.specs.Reply.{IsAnswerTo, accepting_cells, cells_answered, counted_in, refused_in}

-- a refusal is told with its cell and its cause, between the refusals before and after it
abbrev pub RefusalsAreListed : Type 0
RefusalsAreListed = (cell : Cell) (cause : ℕ) (before after : List (Cell × Answer))
    → refused_in (before ++ (cell, answers.Cause cause) ∷ after)
    ≡ refused_in before ++ record { cell = cell; cause = cause } ∷ refused_in after

-- and so are the completed broadcasts of a cell that stopped a message
abbrev pub StopsAreCounted : Type 0
StopsAreCounted = (cell : Cell) (completed : ℕ) (before after : List (Cell × Answer))
    → counted_in (before ++ (cell, answers.Stopped completed) ∷ after)
    ≡ counted_in before ++ record { cell = cell; number = completed; info = 0 } ∷ counted_in after

-- a cell that wasn't asked isn't among the failures
abbrev pub OthersAreNotRefused : Type 0
OthersAreNotRefused = (cell : Cell) (answers : List (Cell × Answer))
    → contains (cells_answered answers) cell ≡ false
    → contains (cells_of_failures (refused_in answers)) cell ≡ false

-- a cell that accepts a plain write is told as accepting, and the completed broadcasts of one that replaced a message
abbrev pub AcceptedAreListed : Type 0
AcceptedAreListed = (cell : Cell) (slot : ℕ) (before after : List (Cell × Answer))
    → accepting_cells (before ++ (cell, answers.Started slot) ∷ after) ≡ accepting_cells before ++ cell ∷
    accepting_cells after

abbrev pub ReplacedAreCounted : Type 0
ReplacedAreCounted = (cell : Cell) (slot completed : ℕ) (before after : List (Cell × Answer))
    → counted_in (before ++ (cell, answers.Replaced slot completed) ∷ after)
    ≡ counted_in before ++ record { cell = cell; number = completed; info = 0 } ∷ counted_in after

-- the commands of orders: a write or a kill
abbrev pub IsOrdered : Command → Type 0
IsOrdered (commands.Write id serial replaces category dcs period broadcasts contents) = ⊤
IsOrdered (commands.Kill id serial) = ⊤
IsOrdered (commands.Status id serial) = ⊥

-- what a cell with room in its log answers to such a command is an answer that the command can get, and has an entry
abbrev pub CellsAnswerTheirCommands : Type 0
CellsAnswerTheirCommands = (slots : ℕ) (log : List Entry) (air : Air) (slot : ℕ) (command : Command)
    → IsOrdered command
    → length log < 4096
    → IsAnswerTo command (answer_of slots log air slot command)
    × (has_entry (answer_of slots log air slot command) ≡ true)
