-- What is kept of judged rows (own). The judge's type keeps this, and contracts of private functions alone speak of it.
use Rattle.std.specs.Prelude.{ℕ, ◌+◌, ◌<◌, ◌≤◌, List, length}
use Rattle.cbsp_wire.specs.declared.message.Cell.{Cell}
use Rattle.alert_book.specs.declared.book.row.Row.{Row}
use Rattle.alert_book.specs.declared.book.row.Row.TheVariants as rows
use Rattle.alert_book.specs.declared.judging.bounds.Bounds.{Bounds}
use Rattle.alert_book.specs.declared.judging.bounds.Bounds.TheVariants as bounds
use Rattle.alert_book.specs.Judging.{Counted}

-- the cells that rows declare, and what bounds the rows
pub record CellsWithin : Type 0 where
  pub bounds : Bounds
  pub cells : List Cell

abbrev pub cells_with : Bounds → List Cell → CellsWithin
cells_with bound cells = record { bounds = bound; cells = cells }

-- so many rows count, and so many orders
abbrev pub IsWithin : Bounds → (rows orders : ℕ) → Type 0
IsWithin bounds.Book rows orders = (orders ≤ rows) × (rows ≤ 4096)
IsWithin bounds.Network rows orders = (orders ≤ 4096) × (rows ≤ 69633)

-- and there is room for one more cell, or one more order
abbrev pub HasRoom : Counted → Row → Type 0
HasRoom before (rows.Declare cell) =
    IsWithin before.bounds (before.rows + 1) (length before.known.orders)
    × (length before.known.cells < 65536)
HasRoom before (rows.Give order) =
    IsWithin before.bounds (before.rows + 1) (length before.known.orders + 1) × (length before.known.orders ≤ 4095)
