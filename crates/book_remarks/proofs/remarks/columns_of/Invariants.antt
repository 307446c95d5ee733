use Rattle.std.proofs.Common.{◌≡◌, map, take}
use Rattle.book_remarks.specs.Answers.{column_of}
use Rattle.book_remarks.proofs.remarks.columns_of.Given as goal

abbrev pub invariant-loop-run : goal.invariant-loop-run
invariant-loop-run l = l.columns.items ≡ map (column_of l.orders) (take l.run-index l.records)
