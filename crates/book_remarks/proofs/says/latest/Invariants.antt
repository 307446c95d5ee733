use Rattle.std.proofs.Common.{◌≡◌, drop}
use Rattle.std.specs.Prelude.{max}
use Rattle.book_remarks.specs.Remarks.{latest}
use Rattle.book_remarks.proofs.says.latest.Given as goal

abbrev pub invariant-loop-m : goal.invariant-loop-m
invariant-loop-m l = max (latest (drop l.m-index l.in_cells)) l.last ≡ latest l.in_cells
