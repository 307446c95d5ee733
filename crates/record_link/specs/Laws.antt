-- What follows from the definitions alone: nothing of a run is left out of its link. Own.
use Rattle.std.specs.Prelude.{◌≡◌, ⊤, Option, Some, None}
use Rattle.bsc_table.specs.Orders.{IsWellFormed}
use Rattle.bsc_table.specs.declared.command.Command.{Command}
use Rattle.bsc_table.specs.declared.entry.Answer.{Answer}
use Rattle.cbsp_link.specs.Written.{wrong_of}
use Rattle.cbsp_link.specs.declared.message.LinkMessage.{LinkMessage}
use Rattle.cbsp_wire.specs.declared.message.Cell.{Cell}
use Rattle.record_link.specs.Sent.{answer_message, order_message}

-- if there is a message, it is one that is written
abbrev pub IsOnLink : Option LinkMessage → Type 0
IsOnLink None = ⊤
IsOnLink (Some message) = wrong_of message ≡ None

-- the order of a command that a message of the centre can ask for, as all of a record are, and each answer to it
pub record AreOnLink (cell : Cell) (command : Command) (answer : Answer) : Type 0 where
  pub order : IsOnLink (order_message cell command)
  pub reply : IsOnLink (answer_message cell command answer)

abbrev pub NoneIsLeftOut : Type 0
NoneIsLeftOut = (cell : Cell) (command : Command) (answer : Answer) → IsWellFormed command
    → AreOnLink cell command answer
