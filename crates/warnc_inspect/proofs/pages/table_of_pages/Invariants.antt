-- The rows so far, and those of the pages that are left, are all.
use Rattle.std.proofs.Common.{◌≡◌, ◌+◌, ◌++◌, ℕ, List, drop}
use Rattle.warnc_inspect.specs.PageOutput.{page_rows, table_of_pages}
use Rattle.warnc_inspect.specs.ReadSteps.{IsTable}
use Rattle.warnc_inspect.proofs.pages.table_of_pages.Given as goal

abbrev pub invariant-loop-place : goal.invariant-loop-place
invariant-loop-place l = (octets : List ℕ) × IsTable l.table octets
    × (octets ++ page_rows l.id l.serial l.paged.dcs.0 l.total (l.place + 1) (drop l.place l.paged.pages.items)
    ≡ table_of_pages l.id l.serial l.paged)
