use Rattle.std.proofs.Common.{◌≡◌, ◌++◌, codes, take, string_bytes}
use Rattle.std.specs.List.{flat_map}
use Rattle.book_remarks.specs.RemarksText.{spaced_cell}
use Rattle.book_remarks.proofs.text.leaves_out.Given as goal

abbrev pub invariant-loop-cell : goal.invariant-loop-cell
invariant-loop-cell l = string_bytes l.text ≡ codes "leaves out" ++ flat_map spaced_cell (take l.cell-index l.cells)
