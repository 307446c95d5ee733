use Rattle.std.proofs.Common.{◌≡◌, ◌++◌, drop}
use Rattle.book_remarks.specs.Remarks.{cells_left_out}
use Rattle.book_remarks.proofs.says.cells_left_out.Given as goal

abbrev pub invariant-loop-m : goal.invariant-loop-m
invariant-loop-m l = l.cells.items ++ cells_left_out (drop l.m-index l.in_cells) ≡ cells_left_out l.in_cells
