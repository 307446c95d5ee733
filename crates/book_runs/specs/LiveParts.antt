-- Some of a book's cells apart from the others, where sessions of the book's parts serve them side by side (own).
use Rattle.std.specs.Prelude.{◌≡◌, ℕ, List, length, map}
use Rattle.alert_book.specs.declared.network.Origin.{Origin}
use Rattle.alert_book.specs.Book.{Contents}
use Rattle.alert_book.specs.Origin.{IsBookFrom}
use Rattle.bsc_table.specs.Record.{Record}
use Rattle.book_runs.specs.CellParts.{kept_exchanges, kept_records, leave, merged}
use Rattle.alert_book.specs.Restricted.{Keep, restricted}
use Rattle.book_runs.specs.Live.{IsLiveRun}
use Rattle.book_runs.specs.Run.{Exchange}

-- what concerns some cells of a run of a book's sessions is a run of as many sessions of their book
abbrev pub CellsLiveApart : Type 0
CellsLiveApart = (keep : Keep) (book : Contents) (slots : ℕ) (sessions : List (List Exchange)) (records : List Record)
    → IsLiveRun book slots sessions records
    → IsLiveRun (restricted keep book) slots (map (kept_exchanges keep) sessions) (kept_records keep records)

-- and such runs of the book of some cells and of the book of the others are one of the whole book
abbrev pub LivePartsMakeTheWhole : Type 0
LivePartsMakeTheWhole = (from : Origin) (input : List ℕ) (keep : Keep) (book : Contents) (slots : ℕ)
    (sessions others : List (List Exchange)) (records rest : List Record)
    → IsBookFrom from input book
    → length others ≡ length sessions
    → IsLiveRun (restricted keep book) slots sessions records
    → IsLiveRun (restricted (leave keep) book) slots others rest
    → (all : List (List Exchange)) × (length all ≡ length sessions)
    × IsLiveRun book slots all (merged keep book.cells records rest)
