-- What holds of every run of a book's sessions (own).
use Rattle.std.specs.Prelude.{◌≡◌, ℕ, ◌<◌, ◌≤◌, List, [], ◌∷◌, length, All}
use Rattle.std.specs.List.{flat_map}
use Rattle.alert_book.specs.declared.network.Origin.{Origin}
use Rattle.alert_book.specs.Book.{Contents}
use Rattle.alert_book.specs.Origin.{IsBookFrom}
use Rattle.bsc_table.specs.Record.{Record}
use Rattle.handset.specs.Tape.{max_slots}
use Rattle.order_desk.specs.declared.note.Note.{Note}
use Rattle.order_desk.specs.Settled.{ClosedDesk, IsSettled}
use Rattle.book_runs.specs.Live.{IsLiveRun}
use Rattle.book_runs.specs.Meant.{IsMeantIn}
use Rattle.book_runs.specs.Ordered.{AreThoseStarted}
use Rattle.book_runs.specs.Run.{Exchange, IsRun}
use Rattle.book_runs.specs.Sessions.{AreSessions}

-- a desk of a book's cells that is settled with the passes of the book's sessions has a run of the book
abbrev pub SettledSessionsAreRuns : Type 0
SettledSessionsAreRuns = (from : Origin) (input : List ℕ) (book : Contents) (slots parts : ℕ) (desk : ClosedDesk)
    (passes : List (List Note)) (records : List Record)
    → IsBookFrom from input book
    → 0 < parts
    → desk.cells ≡ book.cells
    → desk.slots ≡ slots
    → IsSettled desk passes records
    → AreSessions book parts records passes
    → (sessions : List (List Exchange)) × (length sessions ≡ parts) × IsLiveRun book slots sessions records

-- a run of one session is a run of the book
abbrev pub OneSessionIsARun : Type 0
OneSessionIsARun = (book : Contents) (slots : ℕ) (exchanges : List Exchange) (records : List Record)
    → IsLiveRun book slots (exchanges ∷ []) records
    → IsRun book slots exchanges records

-- a handset that reads the tapes of a run is shown what the book means, whatever the cells answered and in whichever
-- order the sessions came to them
abbrev pub LiveRunsShowTheBook : Type 0
LiveRunsShowTheBook = (from : Origin) (input : List ℕ) (book : Contents) (slots : ℕ)
    (sessions : List (List Exchange)) (records : List Record)
    → IsBookFrom from input book
    → slots ≤ max_slots
    → IsLiveRun book slots sessions records
    → All (IsMeantIn book) records

-- the accepted messages of a run's records are those that its cells started in the sessions' exchanges
abbrev pub LiveRunsAcceptWhatWasOrdered : Type 0
LiveRunsAcceptWhatWasOrdered = (from : Origin) (input : List ℕ) (book : Contents) (slots : ℕ)
    (sessions : List (List Exchange)) (records : List Record)
    → IsBookFrom from input book
    → IsLiveRun book slots sessions records
    → All (AreThoseStarted book (flat_map (λ (exchanges : List Exchange). exchanges) sessions)) records
