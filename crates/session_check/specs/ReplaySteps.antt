-- Steps of a session that is replayed (own): how it goes on by the notes of its pass that are left. The contracts of
-- private functions alone speak of it. Where notes are named, they are those of commands.
use Rattle.std.specs.Prelude.{◌≡◌, None, Some, Ok, List, map, All}
use Rattle.std.specs.List.{AllZip}
use Rattle.cbsp_wire.specs.declared.message.Cell.{Cell}
use Rattle.reply_outcome.specs.declared.outcome.Outcome.{Outcome}
use Rattle.alert_book.specs.declared.session.request.Request.{Request}
use Rattle.alert_book.specs.Session.{Standing}
use Rattle.reply_outcome.specs.Replies.{outcome_of}
use Rattle.alert_book.specs.Turns.{GoesTo}
use Rattle.bsc_table.specs.declared.command.Command.{Command}
use Rattle.bsc_table.specs.declared.entry.Answer.{Answer}
use Rattle.bsc_table.specs.Orders.{order_of}
use Rattle.bsc_table.specs.Record.{Record}
use Rattle.order_desk.specs.declared.note.Note.{Note}
use Rattle.order_desk.specs.Reply.{cells_answered, reply_message}
use Rattle.book_runs.specs.Run.{Exchange, IsExchange}
use Rattle.book_runs.specs.Sessions.{IsNoteOf, asks_of}
use Rattle.session_check.specs.NotedSteps.{AreAnswersNoted, record_cells}

-- the message of a request is carried out by the notes: the answers of its cells are read off them, and what is said
-- is what the reply to the answers says
pub record IsTurnNoted (records : List Record) (request : Request) (said : Outcome) (before left : List Note) : Type 0
  where
    pub command : Command
    pub answers : List (Cell × Answer)
    pub order : order_of request.message ≡ Ok (cells_answered answers, command)
    pub noted : AreAnswersNoted records request.at command answers before left
    pub told : Some said ≡ outcome_of request.message (reply_message command answers)

-- the message of a request ordered nothing that is noted next
abbrev pub IsNoTurn : List Record → Request → (before : List Note) → Type 0
IsNoTurn records request before = (command : Command) (answers : List (Cell × Answer)) (left : List Note)
    → order_of request.message ≡ Ok (cells_answered answers, command)
    → AreAnswersNoted records request.at command answers before left
    → ⊥

-- a session goes on from a standing to its end by exchanges with the cells of records, and the notes are of what they
-- ask, in order, and of nothing else
pub record GoesOnBy (records : List Record) (from : Standing) (given : List Note) : Type 0 where
  pub exchanges : List Exchange
  pub reached : Standing
  pub gone : GoesTo from (map (λ x. x.turn) exchanges) reached
  pub over : reached.sent ≡ None
  pub exchanged : All (IsExchange (record_cells records)) exchanges
  pub noted : AllZip (IsNoteOf records) (asks_of (record_cells records) exchanges) given
