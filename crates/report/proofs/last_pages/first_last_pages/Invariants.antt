use Rattle.std.proofs.Common.{◌≡◌, ◌<◌, ◌≤◌, ℕ, None, length, slice_index_or, drop}
use Rattle.bsc_table.specs.Book.{air_pairs}
use Rattle.report.specs.LastPages.{first_airing, pages_at}
use Rattle.report.proofs.last_pages.first_last_pages.Given as goal

abbrev pub invariant-loop-slot : goal.invariant-loop-slot
invariant-loop-slot l = record {
  bounded : l.slot ≤ length l.air;
  places : length l.firsts.items ≡ length l.log;
  each : (place : ℕ) → place < length l.log
      → slice_index_or l.firsts.items place None
      ≡ first_airing place (pages_at l.log place) (drop l.slot (air_pairs l.air)) l.slot;
}

abbrev pub decreases-loop-slot : goal.decreases-loop-slot
decreases-loop-slot l = l.slot
