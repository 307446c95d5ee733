-- Which order of a book the row of a report is of (own).
use Rattle.std.specs.Prelude.{ℕ, ◌==◌, ◌&&◌, Bool, List, Option, Some, None, find}
use Rattle.std.specs.List.{slice_get}
use Rattle.cbsp_wire.specs.declared.message.Cell.{Cell}
use Rattle.report.specs.declared.row.Row.{Row}

-- an order of a book: the row that gives it, from 1, and the name of its alert
pub record Named : Type 0 where
  pub row : ℕ
  pub name : List ℕ

-- a cell that was asked: the places, among a book's orders, of those that asked it, in the order of its log
pub record Asked : Type 0 where
  pub cell : Cell
  pub places : List ℕ

-- the orders of a book, and which of them asked each cell
pub record Orders : Type 0 where
  pub named : List Named
  pub asked : List Asked

abbrev pub is_cell_of : Row → Asked → Bool
is_cell_of r a = (a.cell.lac == r.lac) && (a.cell.ci == r.ci)

-- the place of the order whose entry stands at this place of the log of a cell, if there is such a cell
abbrev pub place_in : (entry : ℕ) → Option Asked → Option ℕ
place_in entry None = None
place_in entry (Some a) = slice_get a.places entry

abbrev pub named_at : List Named → Option ℕ → Option Named
named_at named None = None
named_at named (Some place) = slice_get named place

-- the order that a row is of: the one that asked the row's cell for the row's entry
abbrev pub order_of : Orders → Row → Option Named
order_of orders r = named_at orders.named (place_in r.entry (find (is_cell_of r) orders.asked))
