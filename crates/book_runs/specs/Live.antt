-- A run of a book whose parts are served by a session each, side by side (own).
use Rattle.std.specs.Prelude.{◌≡◌, ℕ, ◌<◌, ◌==◌, List, [], length, map, filter, slice_index_or, All}
use Rattle.alert_book.specs.Book.{Contents}
use Rattle.alert_book.specs.Turns.{AreTurnsOf}
use Rattle.bsc_table.specs.Legal.{IsLegal}
use Rattle.bsc_table.specs.Record.{Record}
use Rattle.book_runs.specs.Run.{Asked, Exchange, IsExchange, asked_of, entries_for}

-- what a cell was asked, one after the other, each with the part whose session asked it
abbrev pub Interleaving : Type 0
Interleaving = List (ℕ × Asked)

-- what the session of a part asked, of all that a cell was asked
abbrev pub asked_by : (part : ℕ) → Interleaving → List Asked
asked_by part order = map (λ a. a.1) (filter (λ a. a.0 == part) order)

-- the record of one cell of the run: a legal history of all its slots, whose log has the entries of what the sessions
-- asked of the cell, each session's in its order, each once, and no others
pub record IsRunBy (slots : ℕ) (sessions : List (List Exchange)) (r : Record) : Type 0 where
  pub run : r.slots ≡ slots
  pub over : r.clock ≡ slots
  pub legal : IsLegal r
  pub order : Interleaving
  pub own : (part : ℕ) → asked_by part order ≡ asked_of r.cell (slice_index_or sessions part [])
  pub entries : r.log ≡ entries_for slots 0 (map (λ a. a.1) order)

-- a run of a book: the turns of the session of each part, with what came of them, and a record for each of the book's
-- cells, in their order
pub record IsLiveRun (book : Contents) (slots : ℕ) (sessions : List (List Exchange)) (records : List Record) : Type 0
  where
    pub turns : (part : ℕ) → part < length sessions
        → AreTurnsOf book part (length sessions) (map (λ x. x.turn) (slice_index_or sessions part []))
    pub cells : map (λ r. r.cell) records ≡ book.cells
    pub exchanged : All (All (IsExchange book.cells)) sessions
    pub each : All (IsRunBy slots sessions) records
