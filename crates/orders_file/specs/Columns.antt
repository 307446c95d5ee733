-- The columns of a row. Own.
use Rattle.std.specs.Prelude.{ℕ, unwrap_or, List, [], Result, Ok, Err}
use Rattle.csv.specs.Records.{field_at}
use Rattle.orders_file.specs.declared.fault.OrdersFileFaultKind.{OrdersFileFaultKind}

-- what comes of a field that is right; a wrong one's fault is the row's
abbrev pub if_right : {A B : Type 0} → Result A OrdersFileFaultKind → (A → Result B OrdersFileFaultKind)
    → Result B OrdersFileFaultKind
if_right (Ok value) next = next value
if_right (Err kind) next = Err kind

-- the field at a place, counted from 0; no octets if there is none
abbrev pub column : List (List ℕ) → ℕ → List ℕ
column fields place = unwrap_or (field_at fields place) []
