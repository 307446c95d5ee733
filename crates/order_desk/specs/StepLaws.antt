-- What a desk does in a cell are steps of that cell (own): so whatever sessions and workers do at a desk, and in
-- whichever order, is for each cell a list of its steps, one after the other.
use Rattle.std.specs.Prelude.{ℕ, ◌-◌, Option, List, [], ◌∷◌}
use Rattle.bsc_table.specs.declared.command.Command.{Command}
use Rattle.bsc_table.specs.declared.command.Command.TheVariants as commands
use Rattle.bsc_table.specs.declared.entry.Answer.{Answer}
use Rattle.bsc_table.specs.declared.entry.SlotRange.{SlotRange}
use Rattle.bsc_table.specs.declared.entry.State.{State}
use Rattle.bsc_table.specs.Record.{Record}
use Rattle.bsc_table.specs.Transitions.{Ask, IsReached, IsStep, Play}
use Rattle.order_desk.specs.declared.note.Note.{Note}
use Rattle.order_desk.specs.Notes.{IsPlay, IsPlayedFor, IsOrderServed, IsStatus}

-- an order from a slot on is a play up to that slot and then the command
abbrev pub OrdersAreSteps : Type 0
OrdersAreSteps = (at : ℕ) (command : Command) (answer : Answer) (before after : Record) (notes : List Note)
    → IsOrderServed at command answer before after notes
    → IsReached (Play (at - before.clock) ∷ Ask command ∷ []) before after

-- an order that ends out of memory has played at most
abbrev pub PlaysOfOrdersAreSteps : Type 0
PlaysOfOrdersAreSteps = (at : ℕ) (before after : Record) (notes : List Note)
    → IsPlayedFor at before after notes
    → IsStep (Play (at - before.clock)) before after

-- a play is a play
abbrev pub PlaysAreSteps : Type 0
PlaysAreSteps = (k : ℕ) (range : SlotRange) (before after : Record) (note : Note)
    → IsPlay k range before after note
    → IsStep (Play k) before after

-- a status is a command
abbrev pub StatusesAreSteps : Type 0
StatusesAreSteps = (id serial : ℕ) (told : Option (ℕ × State)) (before after : Record) (note : Note)
    → IsStatus id serial told before after note
    → IsStep (Ask (commands.Status id serial)) before after
