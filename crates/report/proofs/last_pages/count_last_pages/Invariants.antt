use Rattle.std.proofs.Common.{◌≡◌, length, slice_index, EachIndex}
use Rattle.scheduler.specs.Pages.{times_aired}
use Rattle.bsc_table.specs.Book.{air_pairs}
use Rattle.report.specs.LastPages.{pages_at}
use Rattle.report.proofs.last_pages.count_last_pages.Given as goal

abbrev pub invariant-loop-used : goal.invariant-loop-used
invariant-loop-used l = record {
  places : length l.counts.items ≡ length l.log;
  each : EachIndex l.counts.items (λ place.
      slice_index l.counts.items place ≡ times_aired place (pages_at l.log place) (air_pairs l.air) l.used-index);
}
