use Rattle.std.proofs.Common.{◌≡◌, ◌++◌}
use Rattle.book_remarks.specs.Remarks.{refused_before}
use Rattle.book_remarks.proofs.says.push_refused.Given as goal

abbrev pub invariant-loop-place : goal.invariant-loop-place
invariant-loop-place l = l.said.items ≡ l.fn.said.items ++ refused_before l.in_cells l.place
