use Rattle.std.proofs.Common.{take}
use Rattle.std.specs.List.{flat_map}
use Rattle.cell_orders.specs.Steps.{IsText}
use Rattle.cell_orders.specs.Text.{row_line}
use Rattle.cell_orders.proofs.text.orders_text.Given as goal

abbrev pub invariant-loop-row : goal.invariant-loop-row
invariant-loop-row l = IsText l.text (flat_map row_line (take l.row-index l.rows))
