-- Of which orders of a book the accepted messages of a run's records come (own).
use Rattle.std.specs.Prelude.{◌≡◌, ℕ, true, Some, List, All, Any}
use Rattle.cbsp_wire.specs.declared.message.Cell.{Cell}
use Rattle.cbsp_wire.specs.Range.{is_cell}
use Rattle.alert_book.specs.declared.network.Origin.{Origin}
use Rattle.alert_book.specs.Book.{Contents}
use Rattle.alert_book.specs.Origin.{IsBookFrom}
use Rattle.alert_book.specs.TurnLaws.{ComesOf}
use Rattle.bsc_table.specs.declared.entry.Answer.{Answer}
use Rattle.bsc_table.specs.Orders.{IsWrite}
use Rattle.bsc_table.specs.Record.{Accepted, Record, accepted_in, start_of}
use Rattle.bsc_table.specs.Written.{IsWriteBy}
use Rattle.composition.specs.Composition.{message_accepted}
use Rattle.book_runs.specs.Meant.{IsOfOrder}
use Rattle.book_runs.specs.Run.{Exchange, IsRun}

-- an answer is this cell's, and starts the message, which is the exchange's write
abbrev pub StartsMessage : Cell → Accepted → Exchange → Cell × Answer → Type 0
StartsMessage cell a x given = (is_cell cell given.0 ≡ true) × IsWriteBy a x.command (start_of given.1)

-- an accepted message comes of an exchange: the cell's answer in it starts the message, and its request comes of an
-- order of the book, whose text the message shows
pub record ComesOfExchange (book : Contents) (r : Record) (a : Accepted) (x : Exchange) : Type 0 where
  pub started : Any (StartsMessage r.cell a x) x.answers
  pub ordered : Any (λ order. ComesOf x.turn.request order × IsOfOrder (message_accepted r.log a) order) book.orders

-- an answer of the cell that starts a message of a write has it among the accepted ones
abbrev pub StartIsAccepted : Record → Exchange → Cell × Answer → Type 0
StartIsAccepted r x given = is_cell r.cell given.0 ≡ true → IsWrite x.command → (start : ℕ)
    → start_of given.1 ≡ Some start
    → Any (λ a. IsWriteBy a x.command (Some start)) (accepted_in r.log)

-- the accepted messages of a record are those that its cell started in the exchanges, and no others
pub record AreThoseStarted (book : Contents) (exchanges : List Exchange) (r : Record) : Type 0 where
  pub each : All (λ a. Any (ComesOfExchange book r a) exchanges) (accepted_in r.log)
  pub every : All (λ x. All (StartIsAccepted r x) x.answers) exchanges

-- of each run of a book
abbrev pub RunsAcceptWhatWasOrdered : Type 0
RunsAcceptWhatWasOrdered = (from : Origin) (input : List ℕ) (book : Contents) (slots : ℕ) (exchanges : List Exchange)
    (records : List Record)
    → IsBookFrom from input book
    → IsRun book slots exchanges records
    → All (AreThoseStarted book exchanges) records
