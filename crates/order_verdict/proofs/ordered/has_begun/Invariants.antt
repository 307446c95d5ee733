use Rattle.std.proofs.Common.{◌≡◌, drop}
use Rattle.std.specs.List.{list_any}
use Rattle.order_verdict.specs.Ordered.{begins_row}
use Rattle.order_verdict.proofs.ordered.has_begun.Given as goal

abbrev pub invariant-loop-row : goal.invariant-loop-row
invariant-loop-row l =
    list_any (begins_row l.id l.serial) (drop l.row-index l.before) ≡ list_any (begins_row l.id l.serial) l.before
