-- What a command looks at: a book, a network book, or a group of one. Own.
use Rattle.std.specs.Prelude.{◌≡◌, ℕ, List}
use Rattle.alert_book.specs.declared.book.order.Order.{Order}
use Rattle.alert_book.specs.declared.fault.BookFault.{BookFault}
use Rattle.alert_book.specs.declared.judging.bounds.Bounds.{Bounds}
use Rattle.alert_book.specs.declared.judging.bounds.Bounds.TheVariants as bounds
use Rattle.alert_book.specs.declared.judging.bounds.Extent.{Extent}
use Rattle.alert_book.specs.declared.judging.bounds.Extent.TheVariants as extent
use Rattle.alert_book.specs.Book.{max_book, AreRowsOf, IsRowFault, IsRowFaultBy, Rows}
use Rattle.alert_book.specs.Network.{max_network, row_in_group, AreOrdersIn, AreOrdersOfGroup, HasFewGroups}

-- what bounds the rows: a group's are those of its network
abbrev pub bounds_of : Extent → Bounds
bounds_of extent.Book = bounds.Book
bounds_of extent.Network = bounds.Network
bounds_of (extent.Group group) = bounds.Network

-- the most octets
abbrev pub most_octets : Bounds → ℕ
most_octets bounds.Book = max_book
most_octets bounds.Network = max_network

-- the rows of a book give these orders; their texts may be wrong
pub record AreOrdersOf (input : List ℕ) (orders : List Order) : Type 0 where
  pub rows : Rows
  pub meant : AreRowsOf input rows
  pub given : orders ≡ rows.orders

-- these are the orders of the rows: of a network all, as its first group reads them, and of a group those for its cells
abbrev pub AreOrdersFor : Extent → List ℕ → List Order → Type 0
AreOrdersFor extent.Book input orders = AreOrdersOf input orders
AreOrdersFor extent.Network input orders = AreOrdersIn 0 input orders
AreOrdersFor (extent.Group group) input orders = AreOrdersOfGroup group input orders

-- a row has this fault
abbrev pub IsRowFaultFor : Extent → List ℕ → BookFault → Type 0
IsRowFaultFor extent.Book input f = IsRowFault input f
IsRowFaultFor extent.Network input f = IsRowFaultBy (row_in_group 0) input f
IsRowFaultFor (extent.Group group) input f = IsRowFaultBy (row_in_group group) input f

-- the rows are right, and declare the cells of too few groups for the one that is asked for
abbrev pub LacksGroupOf : Extent → List ℕ → (groups : ℕ) → Type 0
LacksGroupOf extent.Book input groups = ⊥
LacksGroupOf extent.Network input groups = ⊥
LacksGroupOf (extent.Group group) input groups = HasFewGroups group input groups
