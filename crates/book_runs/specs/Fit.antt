-- A book that is fit to be run at a desk (own): one that was read, and that of some of its cells.
use Rattle.std.specs.Prelude.{◌≡◌, ℕ, ◌<◌, ◌≤◌, true, List, length, All}
use Rattle.cbsp_wire.specs.Range.{cells_are_valid, is_writable}
use Rattle.alert_book.specs.declared.network.Origin.{Origin}
use Rattle.alert_book.specs.Book.{Contents, HavePages}
use Rattle.alert_book.specs.Origin.{IsBookFrom}
use Rattle.alert_book.specs.Session.{Standing}
use Rattle.alert_book.specs.Turns.{GoesTo, Turn, begun}
use Rattle.bsc_table.specs.Record.{Record}
use Rattle.order_desk.specs.declared.note.Note.{Note}
use Rattle.order_desk.specs.Settled.{ClosedDesk, IsSettled}
use Rattle.alert_book.specs.Restricted.{IsCopyOf, Keep, restricted}
use Rattle.book_runs.specs.Live.{IsLiveRun}
use Rattle.book_runs.specs.Run.{Exchange}
use Rattle.book_runs.specs.Sessions.{AreSessions}

-- its cells are few, none twice, its orders few, each has the pages of its text, and what its sessions ask can be
-- written
pub record IsFit (book : Contents) : Type 0 where
  pub cells : cells_are_valid book.cells ≡ true
  pub orders : length book.orders ≤ 4096
  pub paged : HavePages book.orders book.pages
  pub writable : (part parts : ℕ) (turns : List Turn) (reached : Standing)
      → GoesTo (begun book part parts) turns reached
      → All (λ turn. is_writable turn.request.message ≡ true) turns

-- one that was read is
abbrev pub BooksAreFit : Type 0
BooksAreFit = (from : Origin) (input : List ℕ) (book : Contents)
    → IsBookFrom from input book
    → IsFit book

-- the book of some of its cells is
abbrev pub PartsAreFit : Type 0
PartsAreFit = (from : Origin) (input : List ℕ) (keep : Keep) (book : Contents)
    → IsBookFrom from input book
    → IsFit (restricted keep book)

-- and a copy of a fit one is
abbrev pub CopiesAreFit : Type 0
CopiesAreFit = (book copy : Contents) → IsCopyOf book copy → IsFit book → IsFit copy

-- a desk of its cells that is settled with the passes of its sessions has a run of it
abbrev pub SettledFitBooksAreRuns : Type 0
SettledFitBooksAreRuns = (book : Contents) (slots parts : ℕ) (desk : ClosedDesk) (passes : List (List Note))
    (records : List Record)
    → IsFit book
    → 0 < parts
    → desk.cells ≡ book.cells
    → desk.slots ≡ slots
    → IsSettled desk passes records
    → AreSessions book parts records passes
    → (sessions : List (List Exchange)) × (length sessions ≡ parts) × IsLiveRun book slots sessions records
