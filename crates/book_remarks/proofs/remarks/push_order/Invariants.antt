use Rattle.std.proofs.Common.{◌≡◌, ◌++◌, map}
use Rattle.book_remarks.specs.Remarks.{remark_of}
use Rattle.book_remarks.proofs.remarks.push_order.Given as goal

abbrev pub invariant-loop-says : goal.invariant-loop-says
invariant-loop-says l = l.remarks.items ≡ l.fn.remarks.items ++ map (remark_of l.order) l.yielded
