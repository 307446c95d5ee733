-- What the blocks of every run of a book show (own).
use Rattle.std.specs.Prelude.{ℕ, ◌≤◌, List, All}
use Rattle.alert_book.specs.declared.network.Origin.{Origin}
use Rattle.alert_book.specs.Book.{Contents}
use Rattle.alert_book.specs.Origin.{IsBookFrom}
use Rattle.bsc_table.specs.Record.{Record}
use Rattle.handset.specs.Tape.{max_slots}
use Rattle.book_runs.specs.Meant.{IsMeantIn}
use Rattle.book_runs.specs.Run.{Exchange, IsRun}

-- a handset that reads the tapes of a book's run is shown what the book means, whatever the cells answered
abbrev pub RunsShowTheBook : Type 0
RunsShowTheBook = (from : Origin) (input : List ℕ) (book : Contents) (slots : ℕ) (exchanges : List Exchange)
    (records : List Record)
    → IsBookFrom from input book
    → slots ≤ max_slots
    → IsRun book slots exchanges records
    → All (IsMeantIn book) records
