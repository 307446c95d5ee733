-- What is kept of a network's rows while they are read for a group (own). Contracts of private functions alone speak of
-- it.
use Rattle.std.specs.Prelude.{◌≡◌, ℕ, ◌+◌, ◌*◌, ◌≤◌, ◌==◌, ◌&&◌, ◌||◌, Bool, false, true, not, slice_get, nat_le}
use Rattle.std.specs.Prelude.{nat_lt, length}
use Rattle.std.specs.Prelude.{if◌then◌else◌, Option, Some, None, List, [], ◌∷◌, ◌++◌, codes, filter, Result, Ok, Err}
use Rattle.std.specs.Io.KnownBytes.{Consumes, IsAtEnd}
use Rattle.std.specs.List.{list_all}
use Rattle.std.specs.Str.{bytes_eq}
use Rattle.cbs_page.specs.declared.paging.Paged.{Paged}
use Rattle.cbsp_wire.specs.declared.message.Cell.{Cell}
use Rattle.cbsp_wire.specs.Range.{are_distinct, is_cell}
use Rattle.alert_book.specs.declared.fault.RowFault.{RowFault}
use Rattle.alert_book.specs.declared.fault.RowFault.TheVariants as fault
use Rattle.alert_book.specs.declared.book.order.Order.{Order}
use Rattle.alert_book.specs.declared.book.row.Row.{Row}
use Rattle.alert_book.specs.declared.book.row.Row.TheVariants as rows
use Rattle.alert_book.specs.declared.network.group_cells.GroupCells.{GroupCells}
use Rattle.alert_book.specs.Book.{with_row, AreRowsBy, HavePages, Rows}
use Rattle.alert_book.specs.CellPairs.{has_cell, Pair}
use Rattle.alert_book.specs.Cells.{cell_with, cells_listed, is_among}
use Rattle.alert_book.specs.Fields.{are_texts, column, if_right, number}
use Rattle.alert_book.specs.Network.{cells_of_group, declares_cell, has_cells, max_network_cells, max_orders}
use Rattle.alert_book.specs.Network.{max_network, row_in_group}
use Rattle.alert_book.specs.Row.{row_after_verb_by, verb_of, FieldCells}
use Rattle.alert_book.specs.Network.{group_size}

-- a field of cells, and a row that declares a cell, by what is kept
abbrev pub kept_judged : GroupCells → Option (List Cell) → Result (List Cell) RowFault
kept_judged g None = Err fault.Number
kept_judged g (Some cells) =
    if list_all (has_cell g.declared) cells then
    (if are_distinct cells then Ok (filter (is_among g.cells) cells) else Err fault.TwiceNamed)
    else Err fault.UnknownCell

abbrev pub kept_all : GroupCells → Result (List Cell) RowFault
kept_all g = if g.count == 0 then Err fault.UnknownCell else Ok g.cells

abbrev pub kept_field : GroupCells → List ℕ → Result (List Cell) RowFault
kept_field g field = if bytes_eq field (codes "*") then kept_all g else kept_judged g (cells_listed field)

abbrev pub kept_declares : GroupCells → List (List ℕ) → Result Row RowFault
kept_declares g fields =
    if nat_le max_network_cells g.count then Err fault.TooManyRows
    else
    if_right (number 0 65535 (column fields 1)) (λ lac.
    if_right (number 0 65535 (column fields 2)) (λ ci.
    if has_cell g.declared (cell_with lac ci) then Err fault.TwiceNamed
    else Ok (rows.Declare (cell_with lac ci))))

-- a row of a network, where this is what it means if it declares a cell, and this what its field of cells comes to
abbrev pub network_row_by : (row : ℕ) → (declares : Result Row RowFault) → FieldCells → List Order → List (List ℕ)
    → Result Row RowFault
network_row_by row declares cells_of orders fields =
    if not (declares_cell fields) && nat_le max_orders (length orders) then Err fault.TooManyRows
    else if not (are_texts fields) then Err fault.Columns
    else row_after_verb_by (verb_of (column fields 0)) declares row cells_of orders fields

-- a row by what is kept
abbrev pub kept_row : (row : ℕ) → GroupCells → List Order → List (List ℕ) → Result Row RowFault
kept_row row g orders fields = network_row_by row (kept_declares g fields) (kept_field g) orders fields

-- a cell more
abbrev pub is_next_in : GroupCells → Bool
is_next_in g = nat_le (group_size * g.group) g.count && nat_lt g.count (group_size * g.group + group_size)

pub record HasMore (old new : GroupCells) (cell : Cell) : Type 0 where
  pub group : new.group ≡ old.group
  pub count : new.count ≡ old.count + 1
  pub cells : new.cells ≡ (if is_next_in old then old.cells ++ cell ∷ [] else old.cells)
  pub declared : (other : Cell) → has_cell new.declared other ≡ (has_cell old.declared other || is_cell cell other)

-- what is kept is kept of these cells, for a group
pub record IsKeptOf (g : GroupCells) (group : ℕ) (cells : List Cell) : Type 0 where
  pub of_group : g.group ≡ group
  pub count : g.count ≡ length cells
  pub own : g.cells ≡ cells_of_group group cells
  pub declared : (cell : Cell) → has_cell g.declared cell ≡ is_among cells cell
  pub distinct : are_distinct cells ≡ true

-- a set has these cells, none twice
pub record AreSeen (seen : List Pair) (cells : List Cell) : Type 0 where
  pub same : (cell : Cell) → has_cell seen cell ≡ is_among cells cell
  pub distinct : are_distinct cells ≡ true

-- what is kept of rows
pub record RowsKept : Type 0 where
  pub declared : GroupCells
  pub orders : List Order

-- after one more row
abbrev pub IsKeptMore : (old new : RowsKept) → Row → Type 0
IsKeptMore old new (rows.Declare cell) = HasMore old.declared new.declared cell × (new.orders ≡ old.orders)
IsKeptMore old new (rows.Give order) =
    (new.declared ≡ old.declared) × (new.orders ≡ old.orders ++ order ∷ [])

-- what is kept is kept of these rows, for a group
pub record AreKeptOf (kept : RowsKept) (group : ℕ) (rows : Rows) : Type 0 where
  pub declared : IsKeptOf kept.declared group rows.cells
  pub orders : kept.orders ≡ rows.orders
  pub few_cells : length rows.cells ≤ 65536
  pub few : length rows.orders ≤ 4096

-- and so it is after one more row
pub record AreKeptAfter (row : ℕ) (fields : List (List ℕ)) (new : RowsKept) (group : ℕ) (rows : Rows) : Type 0 where
  pub meant : Row
  pub right : row_in_group group row rows.cells rows.orders fields ≡ Ok meant
  pub kept : AreKeptOf new group (with_row rows meant)

-- after all rows of the octets
pub record AreAllKept (kept : RowsKept) (group : ℕ) (input : List ℕ) : Type 0 where
  pub rows : Rows
  pub meant : AreRowsBy (row_in_group group) input rows
  pub known : AreKeptOf kept group rows

-- a network book was read, and this is kept of it
pub record ReadsRows (old new : Option (List ℕ)) (group : ℕ) (kept : RowsKept) (pages : List (Option Paged)) : Type 0
  where
    pub input : List ℕ
    pub consumed : Consumes old new input
    pub ended : IsAtEnd new
    pub bounded : length input ≤ max_network
    pub all : AreAllKept kept group input
    pub paged : HavePages kept.orders pages

-- whether the order at a place is for some cells
abbrev pub is_kept : Option Order → Bool
is_kept None = false
is_kept (Some order) = has_cells order

abbrev pub is_kept_at : List Order → (place : ℕ) → Bool
is_kept_at orders place = is_kept (slice_get orders place)

-- of orders with their pages those that are for some cells
abbrev pub pages_kept : List Order → List (Option Paged) → List (Option Paged)
pages_kept [] pages = []
pages_kept (order ∷ orders) [] = []
pages_kept (order ∷ orders) (paged ∷ pages) =
    if has_cells order then paged ∷ pages_kept orders pages else pages_kept orders pages
