use Rattle.std.proofs.Common.{◌≡◌, ◌≢◌, ℕ, ◌-◌, ◌<◌, ◌≤◌, length, get_or}
use Rattle.std.specs.declared.cmp.Ordering.TheVariants.{Less}
use Rattle.bsc_table.specs.declared.table.Pair.{Pair}
use Rattle.bsc_table.specs.Table.{compare_pairs, pair_kept}
use Rattle.bsc_table.proofs.table.gap_for.Given as goal

abbrev pub decreases-loop-low : goal.decreases-loop-low
decreases-loop-low l = l.high - l.low

abbrev pub invariant-loop-low : goal.invariant-loop-low
invariant-loop-low l = record {
  ordered : l.low ≤ l.high;
  within : l.high ≤ length l.pairs;
  before : (k : ℕ) (d : Pair) → k < l.low
      → compare_pairs (pair_kept (get_or l.pairs k d)) (l.id, l.serial) ≡ Less;
  behind : (k : ℕ) (d : Pair) → l.high ≤ k → k < length l.pairs
      → compare_pairs (pair_kept (get_or l.pairs k d)) (l.id, l.serial) ≢ Less;
}
