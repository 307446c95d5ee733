use Rattle.std.proofs.Common.{◌≡◌, ◌≤◌, ◌+◌, ◌-◌, length}
use Rattle.std.specs.List.{count_by, range_with_len}
use Rattle.bsc_table.specs.Book.{air_pairs}
use Rattle.chart.specs.Kept.{accepted_kept}
use Rattle.chart.specs.Message.{is_marked, marked_to, number_of_marks}
use Rattle.chart.proofs.message.count_marks.Given as goal

abbrev pub invariant-loop-slot : goal.invariant-loop-slot
invariant-loop-slot l = record {
  few : l.count ≤ l.slot;
  counted : l.count + count_by (is_marked (air_pairs l.air) (accepted_kept l.kept).message)
      (range_with_len l.slot (marked_to l.fn.stretch (length l.air) (accepted_kept l.kept).message - l.slot))
      ≡ number_of_marks l.fn.stretch (length l.air) (air_pairs l.air) (accepted_kept l.kept).message;
}
