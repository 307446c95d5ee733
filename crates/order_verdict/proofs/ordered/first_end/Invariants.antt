use Rattle.std.proofs.Common.{◌≡◌, drop, find}
use Rattle.order_verdict.specs.Ordered.{ends_row}
use Rattle.order_verdict.proofs.ordered.first_end.Given as goal

abbrev pub invariant-loop-row : goal.invariant-loop-row
invariant-loop-row l = find (ends_row l.id l.serial) (drop l.row-index l.rows) ≡ find (ends_row l.id l.serial) l.rows
