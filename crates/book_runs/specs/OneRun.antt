-- A book has one run (own): what is asked, answered and aired is a function of its octets and of the number of slots.
use Rattle.std.specs.Prelude.{◌≡◌, ℕ, List}
use Rattle.alert_book.specs.declared.network.Origin.{Origin}
use Rattle.alert_book.specs.Book.{Contents}
use Rattle.alert_book.specs.Origin.{IsBookFrom}
use Rattle.bsc_table.specs.Record.{Record}
use Rattle.book_runs.specs.Run.{Exchange, IsRun}

-- octets that are a book, or a group's of a network, have one run of this many slots: the same exchanges and the same
-- records, whatever made it
abbrev pub RunsAreOne : Type 0
RunsAreOne = (from : Origin) (input : List ℕ) (book other : Contents) (slots : ℕ)
    (exchanges others : List Exchange) (records rest : List Record)
    → IsBookFrom from input book
    → IsBookFrom from input other
    → IsRun book slots exchanges records
    → IsRun other slots others rest
    → (exchanges ≡ others) × (records ≡ rest)
