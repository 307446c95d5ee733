use Rattle.std.proofs.Common.{◌≡◌, drop}
use Rattle.std.specs.List.{list_any}
use Rattle.book_remarks.specs.Remarks.{is_answered}
use Rattle.book_remarks.proofs.says.is_any_answered.Given as goal

abbrev pub invariant-loop-m : goal.invariant-loop-m
invariant-loop-m l = list_any is_answered (drop l.m-index l.in_cells) ≡ list_any is_answered l.in_cells
