-- What follows from the definitions alone. Own.
use Rattle.std.specs.Prelude.{◌≡◌, ◌<◌, ◌≤◌, ℕ, List, length, map, All, IfSome}
use Rattle.cbs_page.specs.declared.content.Content.{Content}
use Rattle.cell_orders.specs.declared.row.CellAnswer.{CellAnswer}
use Rattle.cell_orders.specs.declared.row.CellOrder.{CellOrder}
use Rattle.cell_orders.specs.declared.row.CellOrder.TheVariants as rows
use Rattle.cell_orders.specs.declared.row.OrderRow.{OrderRow}
use Rattle.cell_orders.specs.Text.{orders_text}
use Rattle.orders_file.specs.File.{IsOrdersFile, max_orders_file, max_rows}
use Rattle.orders_file.specs.Ranges.{IsWithin}
use Rattle.orders_file.specs.Row.{row_with}

-- the time and the packet of a row aren't in its text
abbrev pub untimed : OrderRow → OrderRow
untimed row = row_with row.at row.order

-- numbers that fit their types, as those of each value do
abbrev pub IsOctet : ℕ → Type 0
IsOctet n = n < 256

abbrev pub IsPair : ℕ → Type 0
IsPair n = n < 65536

pub record FitsContent (content : Content) : Type 0 where
  pub whole : length content.octets ≡ 82
  pub octets : All IsOctet content.octets

pub record FitsAnswer (answer : CellAnswer) : Type 0 where
  pub cause : IfSome answer.cause IsOctet
  pub done : IfSome answer.done IsPair

abbrev pub FitsOrder : CellOrder → Type 0
FitsOrder (rows.Write id new_serial old_serial category period broadcasts dcs contents answer) =
    IsPair id × IsPair new_serial × IfSome old_serial IsPair × IsOctet category × IsPair broadcasts × IsOctet dcs.0
    × All FitsContent contents × IfSome answer FitsAnswer
FitsOrder (rows.Kill id old_serial answer) = IsPair id × IsPair old_serial × IfSome answer FitsAnswer
FitsOrder rows.Clear = Unit {0}

abbrev pub Fits : OrderRow → Type 0
Fits row = FitsOrder row.order

-- what `orders_text` writes of rows within the ranges is read back, but for times and packets
abbrev pub OrdersAreReadBack : Type 0
OrdersAreReadBack =
    (rows : List OrderRow) → All Fits rows → All IsWithin rows → length rows ≤ max_rows
    → length (orders_text rows) ≤ max_orders_file → IsOrdersFile (orders_text rows) (map untimed rows)
