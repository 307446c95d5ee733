use Rattle.std.proofs.Common.{◌≡◌, take}
use Rattle.std.specs.List.{flat_map}
use Rattle.record_orders.specs.Ordered.{rows_if}
use Rattle.record_orders.proofs.rows.rows_in.Given as goal

abbrev pub invariant-loop-run : goal.invariant-loop-run
invariant-loop-run l = l.rows.items ≡ flat_map (rows_if l.cell) (take l.run-index l.records)
