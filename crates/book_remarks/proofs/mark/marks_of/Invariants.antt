use Rattle.std.proofs.Common.{◌≡◌, ◌≤◌, ◌++◌, [], drop}
use Rattle.bsc_table.specs.Book.{air_pairs}
use Rattle.book_remarks.specs.Answers.{marks_from}
use Rattle.book_remarks.proofs.mark.marks_of.Given as goal

abbrev pub invariant-loop-order : goal.invariant-loop-order
invariant-loop-order l = record {
  few : l.place ≤ l.order-index;
  marks : l.marks.items
      ++ marks_from l.cell (air_pairs l.air) l.log l.place l.accepted.items (drop l.order-index l.orders)
      ≡ marks_from l.cell (air_pairs l.air) l.log 0 [] l.orders;
}
