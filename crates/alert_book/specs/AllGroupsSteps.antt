-- What is kept of a network's rows while they are read for all its groups at once (own). Contracts of private functions
-- alone speak of it.
use Rattle.std.specs.Prelude.{◌≡◌, ⊤, ℕ, ◌/◌, ◌≤◌, ◌==◌, Bool, false, true, cond, is_some, nat_le, length}
use Rattle.std.specs.Prelude.{if◌then◌else◌, Option, Some, None, List, [], ◌∷◌, ◌++◌, codes, filter, Result, Ok}
use Rattle.std.specs.Prelude.{Err, slice_index_or}
use Rattle.std.specs.List.{list_all}
use Rattle.std.specs.Map.{lookup}
use Rattle.std.specs.Str.{bytes_eq}
use Rattle.cbsp_wire.specs.declared.message.Cell.{Cell}
use Rattle.cbsp_wire.specs.Range.{are_distinct, is_cell}
use Rattle.alert_book.specs.declared.fault.RowFault.{RowFault}
use Rattle.alert_book.specs.declared.fault.RowFault.TheVariants as fault
use Rattle.alert_book.specs.declared.book.order.Order.{Order}
use Rattle.alert_book.specs.declared.book.row.Row.{Row}
use Rattle.alert_book.specs.declared.book.row.Row.TheVariants as rows
use Rattle.alert_book.specs.declared.network.all_cells.NetworkCells.{NetworkCells}
use Rattle.alert_book.specs.declared.network.shares.Named.{Named}
use Rattle.alert_book.specs.declared.network.shares.Named.TheVariants as named
use Rattle.alert_book.specs.Book.{rows_with, AreRowsBy, Rows}
use Rattle.alert_book.specs.CellPairs.{is_pair, Pair}
use Rattle.alert_book.specs.Cells.{cell_with, cells_listed, is_among}
use Rattle.alert_book.specs.Fields.{column, if_right, number}
use Rattle.alert_book.specs.Network.{cells_of_action, cells_of_group, max_network_cells, order_to, orders_in}
use Rattle.alert_book.specs.Network.{row_in_group}
use Rattle.alert_book.specs.NetworkSteps.{network_row_by}
use Rattle.alert_book.specs.Network.{group_size}

-- the group of a cell, if it has one
abbrev pub group_of_cell : List (Pair × ℕ) → Cell → Option ℕ
group_of_cell groups cell = lookup (is_pair (cell.lac, cell.ci)) groups

abbrev pub has_group : List (Pair × ℕ) → Cell → Bool
has_group groups cell = is_some (group_of_cell groups cell)

-- whether a group, where there is one, is this one
abbrev pub is_this : Option ℕ → (group : ℕ) → Bool
is_this None group = false
is_this (Some own) group = own == group

abbrev pub is_placed : List (Pair × ℕ) → (group : ℕ) → Cell → Bool
is_placed groups group cell = is_this (group_of_cell groups cell) group

-- a field of cells: those that it lists, and none in place of all that are declared
abbrev pub all_judged : NetworkCells → Option (List Cell) → Result (List Cell) RowFault
all_judged n None = Err fault.Number
all_judged n (Some cells) =
    if list_all (has_group n.groups) cells then (if are_distinct cells then Ok cells else Err fault.TwiceNamed)
    else Err fault.UnknownCell

abbrev pub all_declared : NetworkCells → Result (List Cell) RowFault
all_declared n = if length n.cells == 0 then Err fault.UnknownCell else Ok []

abbrev pub all_field : NetworkCells → List ℕ → Result (List Cell) RowFault
all_field n field = if bytes_eq field (codes "*") then all_declared n else all_judged n (cells_listed field)

-- a row that declares a cell
abbrev pub all_declares : NetworkCells → List (List ℕ) → Result Row RowFault
all_declares n fields =
    if nat_le max_network_cells (length n.cells) then Err fault.TooManyRows
    else
    if_right (number 0 65535 (column fields 1)) (λ lac.
    if_right (number 0 65535 (column fields 2)) (λ ci.
    if has_group n.groups (cell_with lac ci) then Err fault.TwiceNamed
    else Ok (rows.Declare (cell_with lac ci))))

-- a cell more
pub record HasCellMore (old new : NetworkCells) (cell : Cell) : Type 0 where
  pub cells : new.cells ≡ old.cells ++ cell ∷ []
  pub groups : (other : Cell)
      → group_of_cell new.groups other
      ≡ cond (is_cell cell other) (Some (length old.cells / group_size)) (group_of_cell old.groups other)

-- the group of a cell is right where these are the cells
abbrev pub IsRightGroup : List Cell → Cell → Option ℕ → Type 0
IsRightGroup cells cell None = is_among cells cell ≡ false
IsRightGroup cells cell (Some own) =
    (is_among cells cell ≡ true) × ((group : ℕ) → is_among (cells_of_group group cells) cell ≡ (own == group))

-- the group of each cell is right, and no cell is there twice
pub record AreGrouped (n : NetworkCells) : Type 0 where
  pub groups : (cell : Cell) → IsRightGroup n.cells cell (group_of_cell n.groups cell)
  pub distinct : are_distinct n.cells ≡ true

-- what a row names whose field of cells comes to these
abbrev pub IsNamed : NetworkCells → List Cell → Named → Type 0
IsNamed n [] (named.All count) = count ≡ length n.cells
IsNamed n [] (named.Listed shares) = ⊥
IsNamed n (cell ∷ cells) (named.All count) = ⊥
IsNamed n (cell ∷ cells) (named.Listed shares) =
    (group : ℕ) → slice_index_or shares group [] ≡ filter (is_placed n.groups group) (cell ∷ cells)

-- what rows name was declared
abbrev pub IsDeclared : (count : ℕ) → Named → Type 0
IsDeclared count (named.All some) = some ≤ count
IsDeclared count (named.Listed shares) = ⊤

abbrev pub AreDeclared : (count : ℕ) → List Named → Type 0
AreDeclared count [] = ⊤
AreDeclared count (name ∷ all) = IsDeclared count name × AreDeclared count all

-- a row by all that is kept
abbrev pub all_row : (row : ℕ) → NetworkCells → List Order → List (List ℕ) → Result Row RowFault
all_row row n orders fields = network_row_by row (all_declares n fields) (all_field n) orders fields

-- what is kept of rows: their cells, their orders without cells, and what each of these names
pub record AllRowsKept : Type 0 where
  pub declared : NetworkCells
  pub orders : List Order
  pub named : List Named

-- what a group reads
abbrev pub rows_in : AllRowsKept → (group : ℕ) → Rows
rows_in kept group = rows_with kept.declared.cells (orders_in kept.declared.cells group kept.orders kept.named)

-- after one more row
abbrev pub IsAllMore : (old new : AllRowsKept) → Row → Type 0
IsAllMore old new (rows.Declare cell) =
    HasCellMore old.declared new.declared cell × (new.orders ≡ old.orders) × (new.named ≡ old.named)
IsAllMore old new (rows.Give order) =
    (name : Named) × IsNamed old.declared (cells_of_action order.action) name
    × (new.declared ≡ old.declared) × (new.orders ≡ old.orders ++ order_to order [] ∷ [])
    × (new.named ≡ old.named ++ name ∷ [])

-- what is kept of the cells, of the orders and of what they name fits together
pub record AreRightlyKept (kept : AllRowsKept) : Type 0 where
  pub grouped : AreGrouped kept.declared
  pub named : AreDeclared (length kept.declared.cells) kept.named
  pub as_many : length kept.named ≡ length kept.orders
  pub few_cells : length kept.declared.cells ≤ 65536
  pub few : length kept.orders ≤ 4096

-- each group reads these rows in the octets
pub record AreRowsOfAll (kept : AllRowsKept) (input : List ℕ) : Type 0 where
  pub meant : (group : ℕ) → AreRowsBy (row_in_group group) input (rows_in kept group)
  pub few_cells : length kept.declared.cells ≤ 65536
