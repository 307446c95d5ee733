use Rattle.std.proofs.Common.{◌≡◌, ◌+◌, ◌<◌, ℕ, drop, length, slice_index}
use Rattle.bsc_table.specs.Claim.{claimed_at}
use Rattle.bsc_table.specs.Record.{claims_of}
use Rattle.chart.specs.Kept.{all_kept}
use Rattle.chart.proofs.load.summed_loads.Given as goal

abbrev pub invariant-loop-kept : goal.invariant-loop-kept
invariant-loop-kept l = record {
  same : length l.loads.items ≡ l.slots;
  each : (slot : ℕ) → slot < l.slots → slice_index l.loads.items slot
      + claimed_at (claims_of (all_kept (drop l.kept-index l.all))) slot ≡ claimed_at (claims_of (all_kept l.all)) slot;
}
