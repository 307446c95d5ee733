-- The book of some of a book's cells (own).
use Rattle.std.specs.Prelude.{◌≡◌, Bool, Option, List, filter, map}
use Rattle.std.specs.List.{AllZip}
use Rattle.cbs_page.specs.declared.paging.Paged.{Paged}
use Rattle.cbsp_wire.specs.CellLists.{contains}
use Rattle.cbsp_wire.specs.declared.message.Cell.{Cell}
use Rattle.alert_book.specs.Book.{Contents}
use Rattle.alert_book.specs.Laws.{HaveSamePages}
use Rattle.alert_book.specs.Network.{action_to, cells_of_action, has_cells, order_to, sending_to}
use Rattle.alert_book.specs.Session.{orders_with}
use Rattle.alert_book.specs.declared.book.order.Action.{Action}
use Rattle.alert_book.specs.declared.book.order.Order.{Order}
use Rattle.alert_book.specs.declared.book.order.Sending.{Sending}

-- the cells that are meant, of all
abbrev pub Keep : Type 0
Keep = Cell → Bool

-- what a row has these cells do
abbrev pub kept_sending : Keep → Sending → Sending
kept_sending keep s = sending_to s (filter keep s.cells)

abbrev pub kept_action : Keep → Action → Action
kept_action keep a = action_to a (filter keep (cells_of_action a))

abbrev pub kept_order : Keep → Order → Order
kept_order keep o = order_to o (filter keep (cells_of_action o.action))

-- an order with its pages
abbrev pub PagedOrder : Type 0
PagedOrder = Order × Option Paged

abbrev pub kept_paged : Keep → PagedOrder → PagedOrder
kept_paged keep o = (kept_order keep o.0, o.1)

abbrev pub is_for_some : PagedOrder → Bool
is_for_some o = has_cells o.0

-- the orders that are for some of these cells, each for those alone. A row keeps its number, its alert's number and its
-- update's, whatever other rows are left out
abbrev pub kept_orders : Keep → List PagedOrder → List PagedOrder
kept_orders keep orders = filter is_for_some (map (kept_paged keep) orders)

-- the book of some of a book's cells
abbrev pub restricted : Keep → Contents → Contents
restricted keep book =
    let kept = kept_orders keep (orders_with book.orders book.pages) in record {
      cells = filter keep book.cells;
      orders = map (λ o. o.0) kept;
      pages = map (λ o. o.1) kept;
    }

-- the cells of a list
abbrev pub in_part : List Cell → Keep
in_part part cell = contains part cell

-- a book has the cells and the orders of another one, and of each order the same pages
pub record IsCopyOf (book copy : Contents) : Type 0 where
  pub cells : copy.cells ≡ book.cells
  pub orders : copy.orders ≡ book.orders
  pub pages : AllZip HaveSamePages book.pages copy.pages
