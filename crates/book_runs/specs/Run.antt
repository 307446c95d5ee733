-- A run of a book (own): what its session asks of the cells, what each of them answers, and what that makes of them.
use Rattle.std.specs.Prelude.{◌≡◌, ℕ, min, max, Bool, false, List, [], ◌∷◌, map, filter, All, Ok}
use Rattle.std.specs.List.{flat_map}
use Rattle.cbsp_wire.specs.declared.cause.TheConstants.{CELL_IDENTITY_NOT_VALID}
use Rattle.cbsp_wire.specs.declared.message.Cell.{Cell}
use Rattle.cbsp_wire.specs.CellLists.{contains}
use Rattle.cbsp_wire.specs.Range.{is_cell}
use Rattle.alert_book.specs.Book.{Contents}
use Rattle.alert_book.specs.Turns.{AreTurnsOf, Turn}
use Rattle.bsc_table.specs.declared.command.Command.{Command}
use Rattle.bsc_table.specs.declared.entry.Answer.{Answer}
use Rattle.bsc_table.specs.declared.entry.Answer.TheVariants as answers
use Rattle.bsc_table.specs.declared.entry.Entry.{Entry}
use Rattle.bsc_table.specs.Record.{Record}
use Rattle.bsc_table.specs.Legal.{IsLegal}
use Rattle.bsc_table.specs.Orders.{order_of}
use Rattle.order_desk.specs.Reply.{cells_answered, reply_message}

-- a turn of the session with what came of it: the command that its message means, and the answer of each cell that the
-- message names, in the message's order
pub record Exchange : Type 0 where
  pub turn : Turn
  pub command : Command
  pub answers : List (Cell × Answer)

-- whether a cell is one of these
abbrev pub is_among : List Cell → Cell → Bool
is_among cells cell = contains cells cell

-- the message of the turn's request means the command to the cells that answered, and the reply is that of their
-- answers. A cell that isn't of the run is not identified
pub record IsExchange (cells : List Cell) (x : Exchange) : Type 0 where
  pub asked : order_of x.turn.request.message ≡ Ok (cells_answered x.answers, x.command)
  pub replied : x.turn.reply ≡ reply_message x.command x.answers
  pub foreign : All (λ a. is_among cells a.0 ≡ false → a.1 ≡ answers.Cause CELL_IDENTITY_NOT_VALID) x.answers

-- a command that a cell was asked from a slot on, and its answer
pub record Asked : Type 0 where
  pub at : ℕ
  pub command : Command
  pub answer : Answer

abbrev pub asked_with : Exchange → (Cell × Answer) → Asked
asked_with x a = record { at = x.turn.request.at; command = x.command; answer = a.1 }

-- what a cell was asked in a turn, and in all of them, in order
abbrev pub asked_in : Cell → Exchange → List Asked
asked_in cell x = map (asked_with x) (filter (λ a. is_cell cell a.0) x.answers)

abbrev pub asked_of : Cell → List Exchange → List Asked
asked_of cell exchanges = flat_map (asked_in cell) exchanges

-- the slot of a command that is asked from a slot on, where the cell's clock stands at another: the later of the two,
-- or the run's end where that is less
abbrev pub given_slot : (slots clock at : ℕ) → ℕ
given_slot slots clock at = min slots (max at clock)

-- the entries of what a cell was asked: one for each command, in order, with its answer. Each is at the least slot that
-- is neither before the one from which it was asked nor before the entry before it, or at the run's end where that is
-- less
abbrev pub entries_for : (slots clock : ℕ) → List Asked → List Entry
entries_for slots clock [] = []
entries_for slots clock (a ∷ later) =
    record { command = a.command; slot = given_slot slots clock a.at; answer = a.answer }
    ∷ entries_for slots (given_slot slots clock a.at) later

-- the record of one cell of the run: a legal history of all its slots, whose log has the entries of what the cell was
-- asked, and no others
pub record IsRunOfBook (slots : ℕ) (exchanges : List Exchange) (r : Record) : Type 0 where
  pub run : r.slots ≡ slots
  pub over : r.clock ≡ slots
  pub legal : IsLegal r
  pub entries : r.log ≡ entries_for slots 0 (asked_of r.cell exchanges)

-- a run of a book: its one session's turns with what came of them, and a record for each of its cells, in their order
pub record IsRun (book : Contents) (slots : ℕ) (exchanges : List Exchange) (records : List Record) : Type 0 where
  pub session : AreTurnsOf book 0 1 (map (λ x. x.turn) exchanges)
  pub cells : map (λ r. r.cell) records ≡ book.cells
  pub exchanged : All (IsExchange book.cells) exchanges
  pub each : All (IsRunOfBook slots exchanges) records
