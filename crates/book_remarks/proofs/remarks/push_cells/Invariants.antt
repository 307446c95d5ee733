use Rattle.std.proofs.Common.{◌≡◌, ◌++◌, take}
use Rattle.std.specs.List.{flat_map}
use Rattle.book_remarks.specs.Remarks.{cell_remarks}
use Rattle.book_remarks.proofs.remarks.push_cells.Given as goal

abbrev pub invariant-loop-run : goal.invariant-loop-run
invariant-loop-run l = l.remarks.items ≡ l.fn.remarks.items ++ flat_map cell_remarks (take l.run-index l.records)
