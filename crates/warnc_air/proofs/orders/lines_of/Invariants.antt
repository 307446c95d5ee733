use Rattle.std.proofs.Common.{◌≡◌, take}
use Rattle.std.specs.List.{flat_map}
use Rattle.warnc_air.specs.OrdersOutput.{line_text}
use Rattle.warnc_air.proofs.orders.lines_of.Given as goal

abbrev pub invariant-loop-row : goal.invariant-loop-row
invariant-loop-row l = l.output.items ≡ flat_map (line_text l.packets) (take l.row-index l.rows)
