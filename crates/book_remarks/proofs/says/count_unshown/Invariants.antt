use Rattle.std.proofs.Common.{◌≡◌, ◌≤◌, ◌+◌, drop}
use Rattle.book_remarks.specs.Remarks.{unshown_count}
use Rattle.book_remarks.proofs.says.count_unshown.Given as goal

abbrev pub invariant-loop-m : goal.invariant-loop-m
invariant-loop-m l = record {
  few : l.count ≤ l.m-index;
  counted : l.count + unshown_count (drop l.m-index l.in_cells) ≡ unshown_count l.in_cells;
}
