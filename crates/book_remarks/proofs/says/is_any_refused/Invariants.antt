use Rattle.std.proofs.Common.{◌≡◌, drop}
use Rattle.std.specs.List.{list_any}
use Rattle.book_remarks.specs.Remarks.{is_refused}
use Rattle.book_remarks.proofs.says.is_any_refused.Given as goal

abbrev pub invariant-loop-m : goal.invariant-loop-m
invariant-loop-m l =
    list_any (is_refused l.cause) (drop l.m-index l.in_cells) ≡ list_any (is_refused l.cause) l.in_cells
