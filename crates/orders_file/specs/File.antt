-- What the octets of an orders file say: the rows that CSV has them be, one after the other; or why they are refused.
-- Own.
use Rattle.std.specs.Prelude.{◌≡◌, ◌⊎◌, ℕ, ◌+◌, ◌<◌, ◌≤◌, nat_lt, if◌then◌else◌, List, [], ◌∷◌, ◌++◌, length}
use Rattle.std.specs.Prelude.{Result, Ok, Err}
use Rattle.csv.specs.Reading.{AreRecords, Reached, default_config, strip_bom}
use Rattle.csv.specs.declared.parser.State.{State}
use Rattle.csv.specs.declared.parser.State.TheVariants as st
use Rattle.cell_orders.specs.declared.row.OrderRow.{OrderRow}
use Rattle.orders_file.specs.declared.fault.OrdersFileFault.{OrdersFileFault}
use Rattle.orders_file.specs.declared.fault.OrdersFileFaultKind.{OrdersFileFaultKind}
use Rattle.orders_file.specs.declared.fault.OrdersFileFaultKind.TheVariants as faults
use Rattle.orders_file.specs.Row.{order_of_fields}

-- the most octets and the most rows of a file
abbrev pub max_orders_file : ℕ
max_orders_file = 16777216

abbrev pub max_rows : ℕ
max_rows = 65536

abbrev pub fault_at : (row : ℕ) → OrdersFileFaultKind → OrdersFileFault
fault_at row kind = record { row = row; kind = kind }

-- the row of this number, from 1
abbrev pub row_numbered : (row : ℕ) → List (List ℕ) → Result OrderRow OrdersFileFaultKind
row_numbered row fields = if nat_lt max_rows row then Err faults.TooManyRows else order_of_fields fields

-- what comes of the rows after one that is right; a wrong one's fault is the file's
abbrev pub after_row : (row : ℕ) → Result OrderRow OrdersFileFaultKind
    → (OrderRow → Result (List OrderRow) OrdersFileFault) → Result (List OrderRow) OrdersFileFault
after_row row (Ok read) next = next read
after_row row (Err kind) next = Err (fault_at row kind)

-- the rows of records, the first of which has this number, after those before; or the fault of the first that is wrong
abbrev pub rows_after : (row : ℕ) → List OrderRow → List (List (List ℕ)) → Result (List OrderRow) OrdersFileFault
rows_after row before [] = Ok before
rows_after row before (fields ∷ more) =
    after_row row (row_numbered row fields) (λ read. rows_after (row + 1) (before ++ read ∷ []) more)

abbrev pub rows_of : List (List (List ℕ)) → Result (List OrderRow) OrdersFileFault
rows_of records = rows_after 1 [] records

-- the octets' records, as CSV reads them, say these rows
pub record AreRows (octets : List ℕ) (rows : List OrderRow) : Type 0 where
  pub records : List (List (List ℕ))
  pub read : AreRecords default_config st.StartRecord (strip_bom octets) records
  pub said : rows_of records ≡ Ok rows

-- the octets' first records, as CSV reads them, have this fault
pub record IsRowFault (octets : List ℕ) (fault : OrdersFileFault) : Type 0 where
  pub records : List (List (List ℕ))
  pub state : State
  pub rest : List ℕ
  pub read : Reached default_config st.StartRecord (strip_bom octets) records state rest
  pub wrong : rows_of records ≡ Err fault

-- the octets are an orders file of these rows
pub record IsOrdersFile (octets : List ℕ) (rows : List OrderRow) : Type 0 where
  pub bounded : length octets ≤ max_orders_file
  pub says : AreRows octets rows

abbrev pub refused : OrdersFileFault
refused = fault_at 0 faults.Refused

abbrev pub too_long : OrdersFileFault
too_long = fault_at 0 faults.TooManyRows

-- why they are none, out of memory aside
abbrev pub IsOrdersFileFault : List ℕ → OrdersFileFault → Type 0
IsOrdersFileFault octets fault =
    ((max_orders_file < length octets) × (fault ≡ too_long))
    ⊎ ((length octets ≤ max_orders_file) × IsRowFault octets fault)
