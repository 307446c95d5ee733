use Rattle.std.proofs.Common.{◌≡◌, ◌+◌, ◌<◌, ◌≤◌, ◌&&◌, ℕ, length, slice_index, nat_le, nat_lt, if◌then◌else◌}
use Rattle.chart.proofs.load.add_load.Given as goal

abbrev pub invariant-loop-slot : goal.invariant-loop-slot
invariant-loop-slot l = record {
  within : l.from ≤ l.to → l.slot ≤ l.to;
  before : l.to ≤ l.from → l.slot ≤ l.from;
  same : length l.loads ≡ length l.fn.loads;
  each : (slot : ℕ) → slot < length l.fn.loads → slice_index l.loads slot ≡ slice_index l.fn.loads slot
      + (if nat_le l.from slot && nat_lt slot l.slot then l.load else 0);
}
