use Rattle.std.proofs.Common.{◌≡◌, ◌≤◌, ◌+◌, drop}
use Rattle.std.specs.Prelude.{count_by}
use Rattle.book_remarks.specs.Remarks.{is_refused}
use Rattle.book_remarks.proofs.says.count_refused.Given as goal

abbrev pub invariant-loop-m : goal.invariant-loop-m
invariant-loop-m l = record {
  few : l.count ≤ l.m-index;
  counted : l.count + count_by (is_refused l.cause) (drop l.m-index l.in_cells)
      ≡ count_by (is_refused l.cause) l.in_cells;
}
