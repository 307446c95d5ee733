use Rattle.std.proofs.Common.{◌≡◌, ◌++◌}
use Rattle.book_remarks.specs.Remarks.{remarks_before}
use Rattle.book_remarks.proofs.remarks.push_orders.Given as goal

abbrev pub invariant-loop-place : goal.invariant-loop-place
invariant-loop-place l = l.remarks.items ≡ l.fn.remarks.items ++ remarks_before l.orders l.columns l.place
