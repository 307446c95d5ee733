-- Tables of cells, as CSV: which sender's packets make the tape of which cell. Own.
use Rattle.std.specs.Prelude.{◌≡◌, ◌⊎◌, ◌<◌, ℕ, ◌+◌, ◌*◌, ◌==◌, ◌&&◌, not, nat_le, Bool, if◌then◌else◌, Option}
use Rattle.std.specs.Prelude.{Some, None, List, [], ◌∷◌, ◌++◌, codes, length, unwrap_or, Result, Ok, Err}
use Rattle.std.specs.Char.{is_ascii_digit}
use Rattle.std.specs.List.{after_first, before_first, list_all, list_any}
use Rattle.std.specs.Option.{ok_or, option_eq}
use Rattle.std.specs.Str.{bytes_eq, is_utf8}
use Rattle.std.specs.Str.Parse.{digits_value}
use Rattle.csv.specs.Reading.{AreRecords, Reached, default_config, strip_bom}
use Rattle.csv.specs.Records.{field_at}
use Rattle.csv.specs.declared.parser.State.{State}
use Rattle.csv.specs.declared.parser.State.TheVariants as st
use Rattle.cbsp_wire.specs.Range.{is_cell}
use Rattle.warnc_air.specs.declared.cell_table.CellRow.{CellRow}
use Rattle.warnc_air.specs.declared.cell_table.Columns.{Columns}
use Rattle.warnc_air.specs.declared.cell_table.Columns.TheVariants as columns
use Rattle.warnc_air.specs.declared.cell_table.TableFault.{TableFault}
use Rattle.warnc_air.specs.declared.cell_table.TableFaultKind.{TableFaultKind}
use Rattle.warnc_air.specs.declared.cell_table.TableFaultKind.TheVariants as fault

-- the most octets of a table, and the most rows after its first
abbrev pub max_table : ℕ
max_table = 1048576

abbrev pub max_rows : ℕ
max_rows = 64

-- the number that a text writes in at most so many ASCII digits, leading zeros among them, where it is small enough
abbrev pub is_number : (digits : ℕ) → List ℕ → Bool
is_number digits text = nat_le 1 (length text) && nat_le (length text) digits && list_all is_ascii_digit text

abbrev pub up_to : (most : ℕ) → ℕ → Option ℕ
up_to most number = if nat_le number most then Some number else None

abbrev pub number_in : (digits most : ℕ) → List ℕ → Option ℕ
number_in digits most text = if is_number digits text then up_to most (digits_value 10 text) else None

abbrev pub octet_in : List ℕ → Option ℕ
octet_in text = number_in 3 255 text

-- the number of an address, of its four octets, the highest first
abbrev pub address_with : (a b c d : Option ℕ) → Option ℕ
address_with (Some a) (Some b) (Some c) (Some d) = Some (16777216 * a + 65536 * b + 256 * c + d)
address_with (Some a) (Some b) (Some c) None = None
address_with (Some a) (Some b) None d = None
address_with (Some a) None c d = None
address_with None b c d = None

abbrev pub is_dot : ℕ → Bool
is_dot octet = octet == 46

-- an IPv4 address: four octets with dots between them
abbrev pub address_in : List ℕ → Option ℕ
address_in text =
    let second = after_first is_dot text in
    let third = after_first is_dot second in
    address_with (octet_in (before_first is_dot text)) (octet_in (before_first is_dot second))
    (octet_in (before_first is_dot third)) (octet_in (after_first is_dot third))

-- the field at a place, counted from 0; no octets where there is none
abbrev pub column : List (List ℕ) → ℕ → List ℕ
column fields place = unwrap_or (field_at fields place) []

abbrev pub is_at : List (List ℕ) → (place : ℕ) → List ℕ → Bool
is_at fields place name = bytes_eq (column fields place) name

-- which columns a table has, by the names in its first row, if it is one of three forms
abbrev pub begins_with_cell : List (List ℕ) → Bool
begins_with_cell fields = is_at fields 0 (codes "lac") && is_at fields 1 (codes "ci")

unfoldable pub columns_named : List (List ℕ) → Option Columns
columns_named fields =
    if not (begins_with_cell fields) then None
    else if length fields == 3 && is_at fields 2 (codes "arfcn") then Some columns.Arfcn
    else if length fields == 3 && is_at fields 2 (codes "source") then Some columns.Source
    else if length fields == 4 && is_at fields 2 (codes "source") && is_at fields 3 (codes "arfcn")
    then Some columns.SourceAndArfcn
    else None

abbrev pub columns_many : Columns → ℕ
columns_many columns.Arfcn = 3
columns_many columns.Source = 3
columns_many columns.SourceAndArfcn = 4

-- what comes of a field that is right; a wrong one's fault is the row's
abbrev pub if_right : {A B : Type 0} → Result A TableFaultKind → (A → Result B TableFaultKind) →
    Result B TableFaultKind
if_right (Ok value) next = next value
if_right (Err kind) next = Err kind

abbrev pub some : Option ℕ → (why : TableFaultKind) → Result (Option ℕ) TableFaultKind
some None why = Err why
some (Some value) why = Ok (Some value)

-- the address that packets come from, and the radio channel that they name, by the columns that there are
abbrev pub source_of : Columns → List (List ℕ) → Result (Option ℕ) TableFaultKind
source_of columns.Arfcn fields = Ok None
source_of columns.Source fields = some (address_in (column fields 2)) fault.Source
source_of columns.SourceAndArfcn fields = some (address_in (column fields 2)) fault.Source

abbrev pub arfcn_of : Columns → List (List ℕ) → Result (Option ℕ) TableFaultKind
arfcn_of columns.Arfcn fields = some (number_in 5 1023 (column fields 2)) fault.Arfcn
arfcn_of columns.Source fields = Ok None
arfcn_of columns.SourceAndArfcn fields = some (number_in 5 1023 (column fields 3)) fault.Arfcn

abbrev pub same_number : Option ℕ → Option ℕ → Bool
same_number a b = option_eq (λ one other. one == other) a b

abbrev pub is_cell_of : CellRow → CellRow → Bool
is_cell_of a b = is_cell a.cell b.cell

abbrev pub is_sender_of : CellRow → CellRow → Bool
is_sender_of a b = same_number a.address b.address && same_number a.arfcn b.arfcn

-- a row whose cell and whose sender no row before it names
abbrev pub if_new : List CellRow → CellRow → Result CellRow TableFaultKind
if_new before row =
    if list_any (is_cell_of row) before then Err fault.CellAgain
    else if list_any (is_sender_of row) before then Err fault.SenderAgain
    else Ok row

-- what a row means after rows before it, or its fault: of several, the first in the order that stands here
abbrev pub row_in : Columns → List (List ℕ) → Result CellRow TableFaultKind
row_in cols fields =
    if_right (ok_or (number_in 5 65535 (column fields 0)) fault.Lac) (λ lac.
    if_right (ok_or (number_in 5 65535 (column fields 1)) fault.Ci) (λ ci.
    if_right (source_of cols fields) (λ address.
    if_right (arfcn_of cols fields) (λ arfcn.
    Ok (record { cell = record { lac = lac; ci = ci }; address = address; arfcn = arfcn })))))

abbrev pub row_after : Columns → List CellRow → List (List ℕ) → Result CellRow TableFaultKind
row_after cols before fields =
    if nat_le max_rows (length before) then Err fault.TooManyRows
    else if not (list_all is_utf8 fields) then Err fault.NotText
    else if not (length fields == columns_many cols) then Err fault.Fields
    else if_right (row_in cols fields) (λ row. if_new before row)

-- what is known of a table after some of its rows: its columns, once the first row was read, and the cells
pub record TableSoFar : Type 0 where
  pub columns : Option Columns
  pub rows : List CellRow

abbrev pub so_far : Option Columns → List CellRow → TableSoFar
so_far cols rows = record { columns = cols; rows = rows }

abbrev pub with_columns : List CellRow → Option Columns → Result TableSoFar TableFaultKind
with_columns before None = Err fault.Columns
with_columns before (Some cols) = Ok (so_far (Some cols) before)

abbrev pub with_row : Columns → List CellRow → Result CellRow TableFaultKind → Result TableSoFar TableFaultKind
with_row cols before (Err kind) = Err kind
with_row cols before (Ok row) = Ok (so_far (Some cols) (before ++ row ∷ []))

abbrev pub with_record_by : Option Columns → List CellRow → List (List ℕ) → Result TableSoFar TableFaultKind
with_record_by None before fields = with_columns before (columns_named fields)
with_record_by (Some cols) before fields = with_row cols before (row_after cols before fields)

-- the first row names the columns, and each later one a cell
abbrev pub with_record : TableSoFar → List (List ℕ) → Result TableSoFar TableFaultKind
with_record known fields = with_record_by known.columns known.rows fields

abbrev pub fault_at : (row : ℕ) → TableFaultKind → TableFault
fault_at row kind = record { row = row; kind = kind }

-- what is known after records, of which the first is the row of this number; or the fault of the first that is wrong
abbrev pub after_record : (row : ℕ) → Result TableSoFar TableFaultKind →
    (TableSoFar → Result TableSoFar TableFault) → Result TableSoFar TableFault
after_record row (Ok known) next = next known
after_record row (Err kind) next = Err (fault_at row kind)

abbrev pub after_records : (row : ℕ) → TableSoFar → List (List (List ℕ)) → Result TableSoFar TableFault
after_records row known [] = Ok known
after_records row known (fields ∷ more) =
    after_record row (with_record known fields) (λ next. after_records (row + 1) next more)

abbrev pub known_of_records : List (List (List ℕ)) → Result TableSoFar TableFault
known_of_records records = after_records 1 (so_far None []) records

-- this is known after all records of the octets, as CSV reads them: none is at fault
pub record IsKnown (input : List ℕ) (known : TableSoFar) : Type 0 where
  pub records : List (List (List ℕ))
  pub read : AreRecords default_config st.StartRecord (strip_bom input) records
  pub meant : known_of_records records ≡ Ok known

-- the octets are a table of these cells, one at least
pub record IsCellTable (input : List ℕ) (rows : List CellRow) : Type 0 where
  pub columns : Columns
  pub known : IsKnown input (so_far (Some columns) rows)
  pub some : 0 < length rows

-- the octets' first records, as CSV reads them, have this fault
pub record HasWrongRow (input : List ℕ) (fault : TableFault) : Type 0 where
  pub records : List (List (List ℕ))
  pub state : State
  pub rest : List ℕ
  pub read : Reached default_config st.StartRecord (strip_bom input) records state rest
  pub wrong : known_of_records records ≡ Err fault

-- a table ends too early: no row names its columns, or a cell
abbrev pub IsMissing : Option Columns → List CellRow → TableFault → Type 0
IsMissing None rows why = why ≡ fault_at 1 fault.Columns
IsMissing (Some cols) rows why = (rows ≡ []) × (why ≡ fault_at 2 fault.NoRow)

pub record HasNoRow (input : List ℕ) (fault : TableFault) : Type 0 where
  pub known : TableSoFar
  pub is : IsKnown input known
  pub missing : IsMissing known.columns known.rows fault

-- why octets are no table of cells, but for out of memory
abbrev pub IsTableFault : (input : List ℕ) → TableFault → Type 0
IsTableFault input fault = HasWrongRow input fault ⊎ HasNoRow input fault
