use Rattle.std.proofs.Common.{◌≡◌, ◌<◌, ◌≤◌, ℕ, None, length, slice_index_or, drop}
use Rattle.report.specs.RowSteps.{AreStops, stop_at}
use Rattle.report.proofs.stops.stops_of.Given as goal

abbrev pub invariant-loop-place : goal.invariant-loop-place
invariant-loop-place l = record {
  bounded : l.place ≤ length l.log;
  places : length l.stops.items ≡ length l.log;
  seen : AreStops l.seen (drop l.place l.log);
  each : (place : ℕ) → l.place ≤ place → place < length l.log
      → slice_index_or l.stops.items place None ≡ stop_at l.log place;
}

abbrev pub decreases-loop-place : goal.decreases-loop-place
decreases-loop-place l = l.place
