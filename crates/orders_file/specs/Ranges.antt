-- What is within the ranges of an orders file, beyond the ranges of the types. Own.
use Rattle.std.specs.Prelude.{◌≤◌}
use Rattle.cell_orders.specs.declared.row.CellOrder.{CellOrder}
use Rattle.cell_orders.specs.declared.row.CellOrder.TheVariants as rows
use Rattle.cell_orders.specs.declared.row.OrderRow.{OrderRow}
use Rattle.orders_file.specs.Page.{ArePages}
use Rattle.orders_file.specs.Row.{last_slot}

-- the period and the pages of an order to broadcast
abbrev pub IsOrderWithin : CellOrder → Type 0
IsOrderWithin (rows.Write id new_serial old_serial category period broadcasts dcs contents answer) =
    (period ≤ 4095) × ArePages contents
IsOrderWithin (rows.Kill id old_serial answer) = Unit {0}
IsOrderWithin rows.Clear = Unit {0}

pub record IsWithin (row : OrderRow) : Type 0 where
  pub at : row.at ≤ last_slot
  pub order : IsOrderWithin row.order
