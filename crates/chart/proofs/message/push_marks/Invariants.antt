use Rattle.std.proofs.Common.{◌≡◌, ◌≤◌, ◌++◌, length}
use Rattle.bsc_table.specs.Book.{air_pairs}
use Rattle.chart.specs.Kept.{accepted_kept}
use Rattle.chart.specs.Message.{is_marked, marked_to, marks_of}
use Rattle.std.proofs.Common.{Some}
use Rattle.chart.proofs.StrokeLaws.{drawn_from}
use Rattle.chart.proofs.message.push_marks.Given as goal

abbrev pub invariant-loop-slot : goal.invariant-loop-slot
invariant-loop-slot l = record {
  behind : l.place ≤ l.slot;
  drawn : l.page ++ drawn_from (is_marked (air_pairs l.air) (accepted_kept l.kept).message) l.slot
      (marked_to l.fn.stretch (length l.air) (accepted_kept l.kept).message) l.place l.is_down
      ≡ l.fn.page ++ marks_of l.fn.stretch (length l.air) (air_pairs l.air) (Some (accepted_kept l.kept));
}
