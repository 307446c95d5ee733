use Rattle.std.proofs.Common.{◌≡◌, ◌++◌, map, take}
use Rattle.verification.specs.Rows.{difference_row}
use Rattle.verification.proofs.findings.push_differences.Given as goal

abbrev pub invariant-loop-difference : goal.invariant-loop-difference
invariant-loop-difference l =
    l.rows.items ≡ l.fn.rows.items ++ map (difference_row l.cell) (take l.difference-index l.differences)
