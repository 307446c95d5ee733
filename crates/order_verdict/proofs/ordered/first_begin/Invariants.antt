use Rattle.std.proofs.Common.{◌≡◌, drop, find}
use Rattle.order_verdict.specs.Ordered.{begins_row}
use Rattle.order_verdict.proofs.ordered.first_begin.Given as goal

abbrev pub invariant-loop-row : goal.invariant-loop-row
invariant-loop-row l =
    find (begins_row l.id l.serial) (drop l.row-index l.rows) ≡ find (begins_row l.id l.serial) l.rows
