-- The rows of records, one after the other.
use Rattle.std.proofs.Common.{◌≡◌, ◌≢◌, ◌⊎◌, ◌∙◌, ◌+◌, ◌++◌, ◌∷◌, ℕ, [], List, Ok, Err, append-nil}
use Rattle.std.proofs.Common.{append_assoc, ap, inl}
use Rattle.std.proofs.Common.{inr, refl, sym}
use Rattle.csv.specs.Reading.{Reached, default_config, strip_bom}
use Rattle.csv.specs.declared.parser.State.{State}
use Rattle.csv.specs.declared.parser.State.TheVariants as st
use Rattle.cell_orders.specs.declared.row.OrderRow.{OrderRow}
use Rattle.orders_file.specs.declared.fault.OrdersFileFault.{OrdersFileFault}
use Rattle.orders_file.specs.declared.fault.OrdersFileFaultKind.{OrdersFileFaultKind}
use Rattle.orders_file.specs.declared.fault.OrdersFileFaultKind.TheVariants as faults
use Rattle.orders_file.specs.File.{IsRowFault, fault_at, refused, row_numbered, rows_after, rows_of}

-- these records, seen so far, leave these rows before the next
abbrev pub Leave : List (List (List ℕ)) → ℕ → List OrderRow → Type 0
Leave seen row before = (more : List (List (List ℕ))) → rows_of (seen ++ more) ≡ rows_after (row + 1) before more

-- one right row more leaves it
pub leave_more : (seen : List (List (List ℕ))) (fields : List (List ℕ)) (row : ℕ) (before next : List OrderRow)
    (read : OrderRow) → Leave seen row before → row_numbered (row + 1) fields ≡ Ok read
    → next ≡ before ++ read ∷ []
    → Leave (seen ++ fields ∷ []) (row + 1) next
leave_more seen fields row before next read so right is more =
    ap rows_of (append_assoc seen (fields ∷ []) more) ∙ so (fields ∷ more) ∙ rw (right, is) refl

-- what all records leave are the rows
pub leave_all : (seen : List (List (List ℕ))) (row : ℕ) (before : List OrderRow) → Leave seen row before
    → rows_of seen ≡ Ok before
leave_all seen row before so = ap rows_of (sym (append-nil seen)) ∙ so []

-- the fault of a row that is wrong after those
pub wrong_row : (octets : List ℕ) (seen : List (List (List ℕ))) (fields : List (List ℕ)) (row : ℕ)
    (before : List OrderRow) (kind : OrdersFileFaultKind) (fault : OrdersFileFault) (state : State) (rest : List ℕ)
    → Reached default_config st.StartRecord (strip_bom octets) (seen ++ fields ∷ []) state rest
    → Leave seen row before → (kind ≢ faults.Refused → row_numbered (row + 1) fields ≡ Err kind)
    → ((fault ≡ refused) ⊎ ((kind ≢ faults.Refused) × (fault ≡ fault_at (row + 1) kind)))
    → (fault ≡ refused) ⊎ IsRowFault octets fault
wrong_row octets seen fields row before kind fault state rest read so wrong (inl none) = inl none
wrong_row octets seen fields row before kind fault state rest read so wrong (inr told) = inr record {
  records = seen ++ fields ∷ [];
  state = state;
  rest = rest;
  read = read;
  wrong = so (fields ∷ []) ∙ rw (wrong told.0, told.1) refl;
}
