-- What a network book's octets mean for a group of its cells. Its rows are those of a book, but up to 65,536 of them
-- declare cells, and up to 4,096 do something else. Own.
use Rattle.std.specs.Prelude.{◌≡◌, ◌⊎◌, ℕ, ◌+◌, ◌*◌, ◌/◌, ◌≤◌, ◌<◌, ◌&&◌, Bool, not, nat_le, if◌then◌else◌, max}
use Rattle.std.specs.Prelude.{Option, List, [], ◌∷◌, codes, drop, filter, length, slice_index_or, take, Result, Ok, Err}
use Rattle.std.specs.Io.KnownBytes.{Consumes, IsAtEnd}
use Rattle.std.specs.Str.{bytes_eq}
use Rattle.cbs_page.specs.declared.paging.Paged.{Paged}
use Rattle.cbsp_wire.specs.declared.message.Cell.{Cell}
use Rattle.cbsp_wire.specs.Range.{is_nothing}
use Rattle.alert_book.specs.declared.fault.BookFault.{BookFault}
use Rattle.alert_book.specs.declared.fault.RowFault.{RowFault}
use Rattle.alert_book.specs.declared.fault.RowFault.TheVariants as fault
use Rattle.alert_book.specs.declared.book.order.Action.{Action}
use Rattle.alert_book.specs.declared.book.order.Action.TheVariants as action
use Rattle.alert_book.specs.declared.book.order.Order.{Order}
use Rattle.alert_book.specs.declared.book.row.Row.{Row}
use Rattle.alert_book.specs.declared.book.order.Sending.{Sending}
use Rattle.alert_book.specs.declared.network.GroupFault.{GroupFault}
use Rattle.alert_book.specs.declared.network.GroupFault.TheVariants as group_fault
use Rattle.alert_book.specs.declared.network.shares.Named.{Named}
use Rattle.alert_book.specs.declared.network.shares.Named.TheVariants as named
use Rattle.alert_book.specs.Book.{refused, too_long, unread, AreRowsBy, Contents, HasTextFaultBy, HavePages}
use Rattle.alert_book.specs.Book.{rows_with, IsRowFaultBy, ReadsBy, Rows}
use Rattle.alert_book.specs.Cells.{cells_of_field, is_among}
use Rattle.alert_book.specs.Fields.{are_texts, column, if_right, sending_with}
use Rattle.alert_book.specs.Row.{cell_row_within, order_with, row_after_verb_by, verb_of}

-- the most octets of a network book, the most rows that declare cells, and the most others
abbrev pub max_network : ℕ
max_network = 67108864

abbrev pub max_network_cells : ℕ
max_network_cells = 65536

abbrev pub max_orders : ℕ
max_orders = 4096

-- how many cells a group has, but for the last one
abbrev pub group_size : ℕ
group_size = 64

-- of the cells of a network, in the order of their rows, those of a group: those from 64 times its number on
abbrev pub cells_of_group : (group : ℕ) → List Cell → List Cell
cells_of_group group cells = take group_size (drop (group_size * group) cells)

-- how many groups a network of this many cells has: one without cells has one
abbrev pub groups_of : (cells : ℕ) → ℕ
groups_of cells = max 1 ((cells + 63) / group_size)

-- what a row's field of cells comes to in a group, where earlier rows of the network declare these: those of the row's
-- cells that are in the group
abbrev pub cells_in_group : (group : ℕ) → List Cell → List ℕ → Result (List Cell) RowFault
cells_in_group group declared field =
    if_right (cells_of_field declared field) (λ cells.
    Ok (filter (is_among (cells_of_group group declared)) cells))

abbrev pub declares_cell : List (List ℕ) → Bool
declares_cell fields = bytes_eq (column fields 0) (codes "cell")

-- what the row of this number means in a group, where the rows before it declare these cells and give these orders.
-- Each row that declares no cell gives an order, some of them for no cells, so that these are as many as such rows
abbrev pub row_in_group : (group row : ℕ) → List Cell → List Order → List (List ℕ) → Result Row RowFault
row_in_group group row declared orders fields =
    if not (declares_cell fields) && nat_le max_orders (length orders) then Err fault.TooManyRows
    else if not (are_texts fields) then Err fault.Columns
    else
    row_after_verb_by (verb_of (column fields 0)) (cell_row_within max_network_cells declared fields) row
    (cells_in_group group declared) orders fields

-- whether an order is for some cells
abbrev pub cells_of_action : Action → List Cell
cells_of_action (action.Write sending) = sending.cells
cells_of_action (action.Update update sending) = sending.cells
cells_of_action (action.Stop cells) = cells

abbrev pub has_cells : Order → Bool
has_cells order = not (is_nothing (cells_of_action order.action))

-- the octets are a network book, and a group reads its rows like this
pub record IsNetwork (group : ℕ) (input : List ℕ) (rows : Rows) : Type 0 where
  pub bounded : length input ≤ max_network
  pub meant : AreRowsBy (row_in_group group) input rows
  pub pages : List (Option Paged)
  pub paged : HavePages rows.orders pages

-- of the cells that a row names those of a group, where the network has these
abbrev pub named_of : List Cell → (group : ℕ) → Named → List Cell
named_of cells group (named.All count) = cells_of_group group (take count cells)
named_of cells group (named.Listed shares) = slice_index_or shares group []

-- an order for these cells
abbrev pub sending_to : Sending → List Cell → Sending
sending_to s cells = sending_with s.language s.category s.period s.broadcasts cells s.text

abbrev pub action_to : Action → List Cell → Action
action_to (action.Write sending) cells = action.Write (sending_to sending cells)
action_to (action.Update update sending) cells = action.Update update (sending_to sending cells)
action_to (action.Stop others) cells = action.Stop cells

abbrev pub order_to : Order → List Cell → Order
order_to o cells = order_with o.row o.at o.name o.number o.alert (action_to o.action cells)

-- orders of a network as a group reads them, by what each names
abbrev pub orders_in : List Cell → (group : ℕ) → List Order → List Named → List Order
orders_in cells group [] all = []
orders_in cells group (order ∷ orders) [] = order_to order [] ∷ orders_in cells group orders []
orders_in cells group (order ∷ orders) (name ∷ all) =
    order_to order (named_of cells group name) ∷ orders_in cells group orders all

-- a network's cells, the orders of its rows without cells, and what cells each of these names
pub record NetworkRows : Type 0 where
  pub cells : List Cell
  pub orders : List Order
  pub named : List Named

-- its rows as a group reads them
abbrev pub read_in : (group : ℕ) → NetworkRows → Rows
read_in group network = rows_with network.cells (orders_in network.cells group network.orders network.named)

-- the octets are a network book, and each group reads these rows in it
abbrev pub MeansNetwork : List ℕ → NetworkRows → Type 0
MeansNetwork input network = (group : ℕ) → IsNetwork group input (read_in group network)

-- the octets are a network book that has this group, whose book is this: its cells, the orders that are for some of
-- them, and the pages of each
pub record IsGroupBook (group : ℕ) (input : List ℕ) (book : Contents) : Type 0 where
  pub rows : Rows
  pub network : IsNetwork group input rows
  pub there : group < groups_of (length rows.cells)
  pub cells : book.cells ≡ cells_of_group group rows.cells
  pub orders : book.orders ≡ filter has_cells rows.orders
  pub paged : HavePages book.orders book.pages

-- the octets are a network book of this many groups
pub record HasGroups (group : ℕ) (input : List ℕ) (groups : ℕ) : Type 0 where
  pub rows : Rows
  pub network : IsNetwork group input rows
  pub count : groups ≡ groups_of (length rows.cells)

-- why octets within the bound are no network book, as a group reads it, out of memory aside: a row's fault, or else a
-- text's, whichever group the text is for
abbrev pub IsWrongNetwork : (group : ℕ) → List ℕ → BookFault → Type 0
IsWrongNetwork group input f =
    (length input ≤ max_network)
    × (IsRowFaultBy (row_in_group group) input f ⊎ HasTextFaultBy (row_in_group group) input f)

-- the book of a group was read: the network book's octets are gone from the reader, and it is at its end
abbrev pub ReadsGroup : (old new : Option (List ℕ)) → (group : ℕ) → Contents → Type 0
ReadsGroup old new group book = ReadsBy (IsGroupBook group) old new book

-- a network book was read like that, and has this many groups
pub record CountsGroups (old new : Option (List ℕ)) (group groups : ℕ) : Type 0 where
  pub input : List ℕ
  pub consumed : Consumes old new input
  pub ended : IsAtEnd new
  pub meant : HasGroups group input groups

-- a network book was refused: some octets are gone from the reader, as of a book that is refused
pub record RefusesNetwork (old new : Option (List ℕ)) (group : ℕ) (f : BookFault) : Type 0 where
  pub input : List ℕ
  pub consumed : Consumes old new input
  pub bounded : length input ≤ max_network + 1
  pub why : (f ≡ refused) ⊎ (f ≡ unread) ⊎ ((f ≡ too_long) × (length input ≡ max_network + 1))
      ⊎ (IsAtEnd new × IsWrongNetwork group input f)

-- why a group has no book: the network book is refused, or it has no more groups than this
abbrev pub HasNoBook : (old new : Option (List ℕ)) → (group : ℕ) → GroupFault → Type 0
HasNoBook old new group (group_fault.Network f) = RefusesNetwork old new group f
HasNoBook old new group (group_fault.NoGroup groups) = (groups ≤ group) × CountsGroups old new group groups

-- why octets are no network book, as a group reads it: out of memory, or they are too many, or the book has a fault
abbrev pub IsNoNetworkBook : (group : ℕ) → List ℕ → BookFault → Type 0
IsNoNetworkBook group input f =
    (f ≡ refused) ⊎ ((f ≡ too_long) × (max_network < length input)) ⊎ IsWrongNetwork group input f

-- why octets have no book for a group: they are no network book, or one of no more groups than this
abbrev pub HasNoBookIn : (group : ℕ) → List ℕ → GroupFault → Type 0
HasNoBookIn group input (group_fault.Network f) = IsNoNetworkBook group input f
HasNoBookIn group input (group_fault.NoGroup groups) = (groups ≤ group) × HasGroups group input groups

-- the octets' rows give these orders, as a group reads them; their texts may be wrong
pub record AreOrdersIn (group : ℕ) (input : List ℕ) (orders : List Order) : Type 0 where
  pub rows : Rows
  pub meant : AreRowsBy (row_in_group group) input rows
  pub given : orders ≡ rows.orders

-- these are the orders of a group that is there: those that are for some of its cells
pub record AreOrdersOfGroup (group : ℕ) (input : List ℕ) (orders : List Order) : Type 0 where
  pub rows : Rows
  pub meant : AreRowsBy (row_in_group group) input rows
  pub there : group < groups_of (length rows.cells)
  pub given : orders ≡ filter has_cells rows.orders

-- the octets' rows are right, and declare the cells of this many groups: too few for this one
pub record HasFewGroups (group : ℕ) (input : List ℕ) (groups : ℕ) : Type 0 where
  pub rows : Rows
  pub meant : AreRowsBy (row_in_group group) input rows
  pub count : groups ≡ groups_of (length rows.cells)
  pub few : groups ≤ group

-- why octets have no orders of a group: memory ran out, or a row has a fault, or the network has no such group
abbrev pub HasNoOrders : (group : ℕ) → List ℕ → GroupFault → Type 0
HasNoOrders group input (group_fault.Network f) = (f ≡ refused) ⊎ IsRowFaultBy (row_in_group group) input f
HasNoOrders group input (group_fault.NoGroup groups) = HasFewGroups group input groups
