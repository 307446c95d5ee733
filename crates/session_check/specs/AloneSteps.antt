-- Steps of a session that cells at hand serve (own): what the books of the cells hold after each. The contracts of
-- private functions alone speak of them.
use Rattle.std.specs.Prelude.{◌≡◌, ◌≤◌, ◌+◌, ℕ, false, Some, Ok, List, [], ◌∷◌, ◌++◌, length, map, filter, All}
use Rattle.cbsp_wire.specs.declared.cause.TheConstants.{CELL_IDENTITY_NOT_VALID}
use Rattle.cbsp_wire.specs.declared.message.Cell.{Cell}
use Rattle.cbsp_wire.specs.declared.message.Message.{Message}
use Rattle.cbsp_wire.specs.Range.{is_cell}
use Rattle.reply_outcome.specs.declared.outcome.Outcome.{Outcome}
use Rattle.reply_outcome.specs.Replies.{outcome_of}
use Rattle.alert_book.specs.declared.session.request.Request.{Request}
use Rattle.alert_book.specs.Book.{Contents}
use Rattle.alert_book.specs.Turns.{AreTurnsOf}
use Rattle.bsc_table.specs.declared.command.Command.{Command}
use Rattle.bsc_table.specs.declared.entry.Answer.{Answer}
use Rattle.bsc_table.specs.declared.entry.Answer.TheVariants as answers
use Rattle.bsc_table.specs.Orders.{order_of}
use Rattle.bsc_table.specs.Record.{Record}
use Rattle.order_desk.specs.Reply.{IsAnswerTo, cells_answered, reply_message}
use Rattle.book_runs.specs.Run.{Asked, Exchange, IsExchange, asked_of, entries_for, given_slot, is_among}
use Rattle.session_check.specs.NotedSteps.{asked_at, record_cells}

-- where the clock of a cell stands that was asked these, from another place on
abbrev pub clock_for : (slots clock : ℕ) → List Asked → ℕ
clock_for slots clock [] = clock
clock_for slots clock (a ∷ later) = clock_for slots (given_slot slots clock a.at) later

-- the book of a cell that was asked these, and nothing else
pub record HasServed (slots : ℕ) (asked : List Asked) (r : Record) : Type 0 where
  pub run : r.slots ≡ slots
  pub stands : r.clock ≡ clock_for slots 0 asked
  pub entries : r.log ≡ entries_for slots 0 asked

-- the books of cells, by what each cell was asked
abbrev pub HaveServed : (slots : ℕ) → (Cell → List Asked) → List Record → Type 0
HaveServed slots asked books = All (λ r. HasServed slots (asked r.cell) r) books

-- books of which nothing was asked yet
abbrev pub AreNew : List Record → Type 0
AreNew books = (slots : ℕ) × HaveServed slots (λ cell. []) books

-- logs have room for one more entry for each time that a list names their cell
abbrev pub HaveRoomFor : List Cell → List Record → Type 0
HaveRoomFor named books = All (λ r. length r.log + length (filter (is_cell r.cell) named) ≤ 4096) books

-- a message is an order for which the logs of its cells have room
pub record IsOrderWithRoom (message : Message) (books : List Record) : Type 0 where
  pub cells : List Cell
  pub command : Command
  pub order : order_of message ≡ Ok (cells, command)
  pub room : HaveRoomFor cells books

-- what a cell is asked by answers to a command
abbrev pub asked_by_all : (at : ℕ) → Command → List (Cell × Answer) → Cell → List Asked
asked_by_all at command answers cell = map (λ a. asked_at at command a.1) (filter (λ a. is_cell cell a.0) answers)

-- a cell answered a command from a slot on: its book before and after
pub record IsAnsweredFrom (at : ℕ) (command : Command) (answer : Answer) (before after : Record) : Type 0 where
  pub cell : after.cell ≡ before.cell
  pub run : after.slots ≡ before.slots
  pub stands : after.clock ≡ given_slot before.slots before.clock at
  pub entered : after.log
      ≡ before.log ++ record { command = command; slot = given_slot before.slots before.clock at; answer = answer } ∷ []
  pub fit : IsAnswerTo command answer

-- a cell that isn't of the book is not identified
abbrev pub IsUnknownIfForeign : (cells : List Cell) → Cell × Answer → Type 0
IsUnknownIfForeign cells a = is_among cells a.0 ≡ false → a.1 ≡ answers.Cause CELL_IDENTITY_NOT_VALID

-- cells answered a command from a slot on: the books of all cells before and after
pub record HaveAnsweredFrom (cells : List Cell) (at : ℕ) (command : Command) (answers : List (Cell × Answer))
    (before after : List Record) : Type 0 where
  pub same : record_cells after ≡ record_cells before
  pub fit : All (λ a. IsAnswerTo command a.1) answers
  pub foreign : All (IsUnknownIfForeign cells) answers
  pub served : (slots : ℕ) (asked : Cell → List Asked)
      → HaveServed slots asked before
      → HaveServed slots (λ cell. asked cell ++ asked_by_all at command answers cell) after
  pub room : (later : List Cell)
      → HaveRoomFor (cells_answered answers ++ later) before
      → HaveRoomFor later after

-- the message of a request was carried out, and what is said is what the reply says
pub record IsTurnServed (cells : List Cell) (request : Request) (said : Outcome) (before after : List Record) : Type 0
  where
    pub command : Command
    pub answers : List (Cell × Answer)
    pub order : order_of request.message ≡ Ok (cells_answered answers, command)
    pub answered : HaveAnsweredFrom cells request.at command answers before after
    pub told : Some said ≡ outcome_of request.message (reply_message command answers)

-- the one session of a book was served to its end, by books of which nothing had been asked
pub record HaveServedSession (book : Contents) (before after : List Record) : Type 0 where
  pub exchanges : List Exchange
  pub turns : AreTurnsOf book 0 1 (map (λ x. x.turn) exchanges)
  pub exchanged : All (IsExchange book.cells) exchanges
  pub same : record_cells after ≡ book.cells
  pub served : (slots : ℕ) → HaveServed slots (λ cell. []) before
      → HaveServed slots (λ cell. asked_of cell exchanges) after
