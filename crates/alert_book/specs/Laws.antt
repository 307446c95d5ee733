-- What holds of books by their definition alone. Own.
use Rattle.std.specs.Prelude.{◌≡◌, ⊤, ℕ, ◌+◌, ◌≤◌, true, Option, Some, None, List, length}
use Rattle.std.specs.List.{AllZip}
use Rattle.cbs_page.specs.declared.paging.Paged.{Paged}
use Rattle.cbsp_wire.specs.Range.{cells_are_valid}
use Rattle.alert_book.specs.declared.fault.BookFault.{BookFault}
use Rattle.alert_book.specs.declared.network.Origin.{Origin}
use Rattle.alert_book.specs.Book.{AreRowsOf, Contents, IsBook, IsRowFault, IsWrong, Rows}
use Rattle.alert_book.specs.Origin.{IsBookFrom}

-- no octets mean rows and have a row that is wrong
abbrev pub RowsAreRightOrWrong : Type 0
RowsAreRightOrWrong = (input : List ℕ) (rows : Rows) (f : BookFault) → AreRowsOf input rows → IsRowFault input f → ⊥

-- octets mean one list of cells and orders at most
abbrev pub RowsAreOne : Type 0
RowsAreOne = (input : List ℕ) (rows others : Rows) → AreRowsOf input rows → AreRowsOf input others → rows ≡ others

-- the rows of a book are at most 4,096, and each declares a cell or gives an order
abbrev pub RowsAreFew : Type 0
RowsAreFew = (input : List ℕ) (book : Contents)
    → IsBook input book
    → length book.cells + length book.orders ≤ 4096

-- a book has at most 64 cells, none twice, and so has that of a group
abbrev pub CellsAreValid : Type 0
CellsAreValid = (from : Origin) (input : List ℕ) (book : Contents)
    → IsBookFrom from input book
    → cells_are_valid book.cells ≡ true

-- and at most 4,096 orders
abbrev pub OrdersAreFew : Type 0
OrdersAreFew = (from : Origin) (input : List ℕ) (book : Contents)
    → IsBookFrom from input book
    → length book.orders ≤ 4096

-- two orders have the same pages, or both none
abbrev pub HaveSamePages : Option Paged → Option Paged → Type 0
HaveSamePages None None = ⊤
HaveSamePages None (Some paged) = ⊥
HaveSamePages (Some paged) None = ⊥
HaveSamePages (Some paged) (Some other) =
    (paged.dcs.0 ≡ other.dcs.0) × (paged.pages.items ≡ other.pages.items)

-- octets are one book at most, and a group has one: its cells, its orders, and the pages of each
abbrev pub BooksAreOne : Type 0
BooksAreOne = (from : Origin) (input : List ℕ) (book other : Contents)
    → IsBookFrom from input book
    → IsBookFrom from input other
    → (book.cells ≡ other.cells) × (book.orders ≡ other.orders) × AllZip HaveSamePages book.pages other.pages

-- a book has no fault, neither of a row nor of a text
abbrev pub BooksAreRight : Type 0
BooksAreRight = (input : List ℕ) (book : Contents) (f : BookFault) → IsBook input book → IsWrong input f → ⊥

-- and octets have one fault at most
abbrev pub FaultsAreOne : Type 0
FaultsAreOne = (input : List ℕ) (f other : BookFault) → IsWrong input f → IsWrong input other → f ≡ other
