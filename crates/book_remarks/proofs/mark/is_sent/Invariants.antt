use Rattle.std.proofs.Common.{◌≡◌, drop}
use Rattle.std.specs.List.{list_any}
use Rattle.scheduler.specs.Pages.{airs_page}
use Rattle.bsc_table.specs.Book.{air_pairs}
use Rattle.book_remarks.proofs.mark.is_sent.Given as goal

abbrev pub invariant-loop-used : goal.invariant-loop-used
invariant-loop-used l =
    list_any (airs_page l.place l.page) (air_pairs (drop l.used-index l.air))
    ≡ list_any (airs_page l.place l.page) (air_pairs l.air)
