use Rattle.std.proofs.Common.{◌≡◌, ◌++◌, take}
use Rattle.std.specs.List.{flat_map}
use Rattle.record_orders.specs.Ordered.{rows_of_entry}
use Rattle.record_orders.proofs.rows.push_log.Given as goal

abbrev pub invariant-loop-entry : goal.invariant-loop-entry
invariant-loop-entry l = l.rows.items ≡ l.fn.rows.items ++ flat_map rows_of_entry (take l.entry-index l.log)
