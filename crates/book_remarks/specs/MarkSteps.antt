-- Steps on the way to what became of orders in a cell (own). The contracts of private functions alone speak of them.
use Rattle.std.specs.Prelude.{◌≡◌, ℕ, Option, IfSome}
use Rattle.scheduler.specs.Air.{Air}
use Rattle.bsc_table.specs.declared.entry.Entry.{Entry}
use Rattle.report.specs.LastPages.{first_airing, page_count_of}

-- the first slot that airs the last page of the entry at a place, if there is an entry
abbrev pub IsFirstOf : Air → (place : ℕ) → (next : Option Entry) → (first : Option ℕ) → Type 0
IsFirstOf air place next first = IfSome next (λ e. first ≡ first_airing place (page_count_of e.command) air 0)
