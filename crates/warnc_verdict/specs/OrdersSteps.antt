-- Steps of a verdict on orders (own). The contracts of private functions alone speak of them.
use Rattle.std.specs.Prelude.{⊤, ℕ, ◌<◌, List, Option, IfSome, length}
use Rattle.cell_orders.specs.declared.row.OrderRow.{OrderRow}
use Rattle.device_ends.specs.Moves.{AppendsFront}
use Rattle.handset.specs.Tape.{IsTapesFault}
use Rattle.orders_file.specs.File.{IsOrdersFileFault, max_orders_file}
use Rattle.orders_file.specs.declared.fault.OrdersFileFault.{OrdersFileFault}
use Rattle.orders_file.specs.declared.fault.OrdersFileFaultKind.{OrdersFileFaultKind}
use Rattle.orders_file.specs.declared.fault.OrdersFileFaultKind.TheVariants as kinds
use Rattle.warnc_verdict.specs.OrdersVerified.{HasOrders, Readers}
use Rattle.warnc_verdict.specs.declared.fault.VerifyOrdersFault.{VerifyOrdersFault}
use Rattle.warnc_verdict.specs.declared.fault.VerifyOrdersFault.TheVariants as faults

-- why there are no rows, where a reader had this left
abbrev pub IsRowsOrFault : (left : Option (List ℕ)) → VerifyOrdersFault → Type 0
IsRowsOrFault left faults.Unread = ⊤
IsRowsOrFault left faults.TooLong = IfSome left (λ input. max_orders_file < length input)
IsRowsOrFault left (faults.Orders f) = IfSome left (λ input. IsOrdersFileFault input f)
IsRowsOrFault left faults.Refused = ⊤
IsRowsOrFault left other = ⊥

-- why there is no table
abbrev pub HasNoTable : Readers → VerifyOrdersFault → Type 0
HasNoTable ends (faults.Tapes f) =
    (rows : List OrderRow) × HasOrders ends.orders_first ends.orders_last rows
    × IfSome ends.tapes_first (λ input. IsTapesFault input f)
HasNoTable ends other = IsRowsOrFault ends.orders_first other

-- what a fault of an orders file comes to
abbrev pub fault_by_kind : OrdersFileFault → OrdersFileFaultKind → VerifyOrdersFault
fault_by_kind f kinds.Refused = faults.Refused
fault_by_kind f other = faults.Orders f

abbrev pub fault_of_file : OrdersFileFault → VerifyOrdersFault
fault_of_file f = fault_by_kind f f.kind

-- why a table wasn't written
abbrev pub IsTableFault : (old new : Option (List ℕ)) → (text : List ℕ) → VerifyOrdersFault → Type 0
IsTableFault old new text faults.WriteFailed = AppendsFront old new text
IsTableFault old new text other = ⊥
