use Rattle.std.proofs.Common.{◌≡◌, map, take}
use Rattle.book_remarks.specs.Remarks.{mark_in}
use Rattle.book_remarks.proofs.remarks.marks_in.Given as goal

abbrev pub invariant-loop-column : goal.invariant-loop-column
invariant-loop-column l = l.in_cells.items ≡ map (mark_in l.place) (take l.column-index l.columns)
