-- What a book's octets mean: the rows that CSV has them be, read one after the other, and the pages of their texts; or
-- why they are refused. Own.
use Rattle.std.specs.Prelude.{◌≡◌, ◌≢◌, ◌⊎◌, ℕ, ◌+◌, ◌<◌, ◌≤◌, Option, Some, None, List, [], ◌∷◌, ◌++◌, length}
use Rattle.std.specs.Prelude.{Result, Ok, Err}
use Rattle.std.specs.Io.KnownBytes.{Consumes, IsAtEnd}
use Rattle.std.specs.Str.{chars}
use Rattle.csv.specs.Reading.{AreRecords, Reached, default_config, strip_bom}
use Rattle.csv.specs.declared.parser.State.{State}
use Rattle.csv.specs.declared.parser.State.TheVariants as st
use Rattle.cbs_page.specs.Text.{IsPagedText, IsTextFault}
use Rattle.cbs_page.specs.declared.paging.Paged.{Paged}
use Rattle.cbs_page.specs.declared.paging.TextFault.{TextFault}
use Rattle.cbs_page.specs.declared.paging.TextFault.TheVariants as text
use Rattle.cbsp_wire.specs.declared.message.Cell.{Cell}
use Rattle.alert_book.specs.declared.fault.BookFault.{BookFault}
use Rattle.alert_book.specs.declared.fault.BookFaultKind.{BookFaultKind}
use Rattle.alert_book.specs.declared.fault.BookFaultKind.TheVariants as fault
use Rattle.alert_book.specs.declared.fault.RowFault.{RowFault}
use Rattle.alert_book.specs.declared.fault.RowFault.TheVariants as row_fault
use Rattle.alert_book.specs.declared.book.order.Action.{Action}
use Rattle.alert_book.specs.declared.book.order.Action.TheVariants as action
use Rattle.alert_book.specs.declared.book.order.Order.{Order}
use Rattle.alert_book.specs.declared.book.order.Sending.{Sending}
use Rattle.alert_book.specs.declared.book.row.Row.{Row}
use Rattle.alert_book.specs.declared.book.row.Row.TheVariants as rows
use Rattle.alert_book.specs.Row.{row_of}

-- the most octets of a book
abbrev pub max_book : ℕ
max_book = 16777216

-- what rows declare and give, in their order
pub record Rows : Type 0 where
  pub cells : List Cell
  pub orders : List Order

abbrev pub rows_with : List Cell → List Order → Rows
rows_with cells orders = record { cells = cells; orders = orders }

abbrev pub with_row : Rows → Row → Rows
with_row before (rows.Declare cell) = rows_with (before.cells ++ cell ∷ []) before.orders
with_row before (rows.Give order) = rows_with before.cells (before.orders ++ order ∷ [])

abbrev pub fault_at : ℕ → BookFaultKind → BookFault
fault_at row kind = record { row = row; kind = kind }

-- what is told of a row's fault
abbrev pub kind_of : RowFault → BookFaultKind
kind_of row_fault.Columns = fault.Columns
kind_of row_fault.Verb = fault.Verb
kind_of row_fault.Number = fault.Number
kind_of row_fault.UnknownCell = fault.UnknownCell
kind_of row_fault.TwiceNamed = fault.TwiceNamed
kind_of row_fault.UnknownName = fault.UnknownName
kind_of row_fault.TooManyUpdates = fault.TooManyUpdates
kind_of row_fault.TooManyRows = fault.TooManyRows
kind_of row_fault.Refused = fault.Refused

-- what comes of the rows after a row that is right; a wrong one's fault is the book's
abbrev pub after_row : ℕ → Rows → Result Row RowFault → (Rows → Result Rows BookFault) → Result Rows BookFault
after_row row before (Ok meant) next = next (with_row before meant)
after_row row before (Err fault) next = Err (fault_at row (kind_of fault))

-- what a row of this number means, where the rows before it declare these cells and give these orders
abbrev pub RowMeaning : Type 0
RowMeaning = (row : ℕ) → List Cell → List Order → List (List ℕ) → Result Row RowFault

-- what the rows from this number on mean after those before them, or the fault of the first that is wrong
abbrev pub rows_read_by : RowMeaning → ℕ → Rows → List (List (List ℕ)) → Result Rows BookFault
rows_read_by meaning row before [] = Ok before
rows_read_by meaning row before (fields ∷ more) =
    after_row row before (meaning row before.cells before.orders fields)
    (λ next. rows_read_by meaning (row + 1) next more)

abbrev pub rows_by : RowMeaning → List (List (List ℕ)) → Result Rows BookFault
rows_by meaning records = rows_read_by meaning 1 (rows_with [] []) records

-- the rows of a book
abbrev pub rows_read : ℕ → Rows → List (List (List ℕ)) → Result Rows BookFault
rows_read row before records = rows_read_by row_of row before records

abbrev pub rows_of : List (List (List ℕ)) → Result Rows BookFault
rows_of records = rows_by row_of records

-- the octets' records, as CSV reads them, mean these rows
pub record AreRowsBy (meaning : RowMeaning) (input : List ℕ) (rows : Rows) : Type 0 where
  pub records : List (List (List ℕ))
  pub read : AreRecords default_config st.StartRecord (strip_bom input) records
  pub meant : rows_by meaning records ≡ Ok rows

abbrev pub AreRowsOf : (input : List ℕ) → Rows → Type 0
AreRowsOf input rows = AreRowsBy row_of input rows

-- the octets' first records, as CSV reads them, have this fault
pub record IsRowFaultBy (meaning : RowMeaning) (input : List ℕ) (fault : BookFault) : Type 0 where
  pub records : List (List (List ℕ))
  pub state : State
  pub rest : List ℕ
  pub read : Reached default_config st.StartRecord (strip_bom input) records state rest
  pub wrong : rows_by meaning records ≡ Err fault

abbrev pub IsRowFault : (input : List ℕ) → BookFault → Type 0
IsRowFault input fault = IsRowFaultBy row_of input fault

-- what an action has cells send, if it does
abbrev pub sending_of : Action → Option Sending
sending_of (action.Write sending) = Some sending
sending_of (action.Update update sending) = Some sending
sending_of (action.Stop cells) = None

-- the pages of an order's text; none where it has no text
abbrev pub ArePagesOf : Option Sending → Option Paged → Type 0
ArePagesOf None None = Unit {0}
ArePagesOf None (Some paged) = ⊥
ArePagesOf (Some sending) None = ⊥
ArePagesOf (Some sending) (Some paged) = IsPagedText sending.language (chars sending.text) paged

-- the pages of orders, one after the other
abbrev pub HavePages : List Order → List (Option Paged) → Type 0
HavePages [] [] = Unit {0}
HavePages [] (paged ∷ pages) = ⊥
HavePages (order ∷ orders) [] = ⊥
HavePages (order ∷ orders) (paged ∷ pages) = ArePagesOf (sending_of order.action) paged × HavePages orders pages

-- this is the row of the first order whose text can't be sent, and why
pub record HasWrongText (orders : List Order) (f : BookFault) : Type 0 where
  pub before : List Order
  pub order : Order
  pub after : List Order
  pub split : orders ≡ before ++ order ∷ after
  pub pages : List (Option Paged)
  pub paged : HavePages before pages
  pub sending : Sending
  pub sent : sending_of order.action ≡ Some sending
  pub why : TextFault
  pub wrong : IsTextFault sending.language (chars sending.text) why
  pub told : why ≢ text.Refused
  pub named : f ≡ fault_at order.row (fault.Text why)

-- what a book is: the cells and orders of its rows, and the pages of each order
pub record Contents : Type 0 where
  pub cells : List Cell
  pub orders : List Order
  pub pages : List (Option Paged)

-- the octets are a book, and mean this
pub record IsBook (input : List ℕ) (book : Contents) : Type 0 where
  pub bounded : length input ≤ max_book
  pub rows : AreRowsOf input (rows_with book.cells book.orders)
  pub paged : HavePages book.orders book.pages

-- a text's fault: no row has one
pub record HasTextFaultBy (meaning : RowMeaning) (input : List ℕ) (f : BookFault) : Type 0 where
  pub rows : Rows
  pub meant : AreRowsBy meaning input rows
  pub wrong : HasWrongText rows.orders f

abbrev pub HasTextFault : (input : List ℕ) → BookFault → Type 0
HasTextFault input f = HasTextFaultBy row_of input f

abbrev pub refused : BookFault
refused = fault_at 0 fault.Refused

abbrev pub unread : BookFault
unread = fault_at 0 fault.ReadFailed

abbrev pub too_long : BookFault
too_long = fault_at 0 fault.TooManyRows

-- why octets within the bound are no book, out of memory aside: a row's fault, or else a text's
abbrev pub IsWrong : List ℕ → BookFault → Type 0
IsWrong input f = (length input ≤ max_book) × (IsRowFault input f ⊎ HasTextFault input f)

-- why octets are no book: out of memory, or they are too many, or the book has a fault
abbrev pub RefusesOctets : List ℕ → BookFault → Type 0
RefusesOctets input f = (f ≡ refused) ⊎ ((f ≡ too_long) × (max_book < length input)) ⊎ IsWrong input f

-- octets that mean a book in this way were read: they are gone from the reader, and it is at its end
pub record ReadsBy (Means : List ℕ → Contents → Type 0) (old new : Option (List ℕ)) (book : Contents) : Type 0 where
  pub input : List ℕ
  pub consumed : Consumes old new input
  pub ended : IsAtEnd new
  pub meant : Means input book

-- a book was read
abbrev pub ReadsBook : (old new : Option (List ℕ)) → Contents → Type 0
ReadsBook old new book = ReadsBy IsBook old new book

-- a book was refused: some octets are gone from the reader. Memory or the device can fail before all of them are; one
-- octet past the bound is one too many; any other fault is one of the whole input
pub record RefusesBook (old new : Option (List ℕ)) (f : BookFault) : Type 0 where
  pub input : List ℕ
  pub consumed : Consumes old new input
  pub bounded : length input ≤ max_book + 1
  pub why : (f ≡ refused) ⊎ (f ≡ unread) ⊎ ((f ≡ too_long) × (length input ≡ max_book + 1))
      ⊎ (IsAtEnd new × IsWrong input f)
