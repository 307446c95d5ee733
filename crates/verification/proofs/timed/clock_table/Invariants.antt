use Rattle.std.proofs.Common.{◌≡◌, ◌++◌, take}
use Rattle.std.specs.List.{flat_map}
use Rattle.verification.specs.Table.{clock_header, clock_row}
use Rattle.verification.proofs.timed.clock_table.Given as goal

abbrev pub invariant-loop-row : goal.invariant-loop-row
invariant-loop-row l = l.text.items ≡ clock_header ++ flat_map (clock_row l.start) (take l.row-index l.rows)
