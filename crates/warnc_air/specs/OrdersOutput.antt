-- What `warnc orders` makes of the octets that it reads: of the capture file that they are, what one cell was asked.
-- Own.
use Rattle.std.specs.Prelude.{◌≡◌, ◌≢◌, ℕ, ◌<◌, ◌≤◌, Bool, if◌then◌else◌, List, ◌++◌, length, codes, Option}
use Rattle.std.specs.Fmt.{decimal}
use Rattle.std.specs.Io.KnownBytes.{Keeps}
use Rattle.std.specs.List.{flat_map}
use Rattle.cell_orders.specs.Text.{row_line}
use Rattle.cell_orders.specs.declared.row.OrderRow.{OrderRow}
use Rattle.device_ends.specs.Moves.{AppendsFront}
use Rattle.gsmtap.specs.declared.fault.AirFault.{AirFault}
use Rattle.gsmtap.specs.declared.fault.AirFaultKind.{AirFaultKind}
use Rattle.gsmtap.specs.declared.fault.AirFaultKind.TheVariants as kind
use Rattle.link_orders.specs.Orders.{AreNoOrdersIn, AreOrdersIn}
use Rattle.link_orders.specs.Overhearing.{IsOverhearingFault}
use Rattle.link_orders.specs.declared.orders.LinkOrders.{LinkOrders}
use Rattle.link_orders.specs.declared.orders.OrdersFault.{OrdersFault}
use Rattle.link_orders.specs.declared.orders.OrdersFault.TheVariants as orders
use Rattle.link_orders.specs.declared.orders.OrdersWanted.{OrdersWanted}
use Rattle.warnc_air.specs.TapeOutput.{max_capture, seconds_text}
use Rattle.warnc_air.specs.declared.orders.OrdersCommandFault.{OrdersCommandFault}
use Rattle.warnc_air.specs.declared.orders.OrdersCommandFault.TheVariants as fault
use Rattle.warnc_air.specs.declared.orders.PassedOver.{PassedOver}

-- the number of a row's packet and when that came, with commas after them
abbrev pub front_text : OrderRow → List ℕ
front_text row = decimal row.packet ++ (codes "," ++ (seconds_text row.time ++ codes ","))

-- the line of a row, which has them in front if they are wanted
abbrev pub line_text : (packets : Bool) → OrderRow → List ℕ
line_text packets row = if packets then front_text row ++ row_line row else row_line row

abbrev pub lines_text : (packets : Bool) → List OrderRow → List ℕ
lines_text packets rows = flat_map (line_text packets) rows

-- what has no row
abbrev pub passed_of : LinkOrders → PassedOver
passed_of orders = record { unread = orders.unread; emergencies = orders.emergencies }

-- the output is what the cell was asked by the capture file that the input is, and this was passed over
pub record IsOrdersOutput (wanted : OrdersWanted) (packets : Bool) (passed : PassedOver) (input output : List ℕ)
    : Type 0
  where
    pub orders : LinkOrders
    pub are : AreOrdersIn wanted input orders
    pub passed_is : passed ≡ passed_of orders
    pub written : output ≡ lines_text packets orders.rows.items

-- why an input that isn't too long has no orders: the file or a packet is at fault, or a message
abbrev pub IsOrdersFault : OrdersWanted → (input : List ℕ) → OrdersCommandFault → Type 0
IsOrdersFault wanted input fault.ReadFailed = ⊥
IsOrdersFault wanted input fault.TooLong = ⊥
IsOrdersFault wanted input (fault.Air why) = IsOverhearingFault wanted.from input why × (why.kind ≢ kind.Refused)
IsOrdersFault wanted input (fault.NoTime packet) = AreNoOrdersIn wanted input (orders.NoTime packet)
IsOrdersFault wanted input (fault.Early packet first_slot) = AreNoOrdersIn wanted input (orders.Early packet first_slot)
IsOrdersFault wanted input fault.Refused = ⊥
IsOrdersFault wanted input fault.WriteFailed = ⊥

-- the input has no orders for this, and nothing was written
abbrev pub HasNoOrders : OrdersWanted → (input : List ℕ) (old new : Option (List ℕ)) → OrdersCommandFault → Type 0
HasNoOrders wanted input old new why = (length input ≤ max_capture) × IsOrdersFault wanted input why × Keeps old new

-- why nothing is written, out of memory and devices aside; after a fault of the writer a front of the output was
-- written, and after any other fault nothing
abbrev pub IsOrdersCommandFault : OrdersWanted → (packets : Bool) → (input : List ℕ) (old new : Option (List ℕ)) →
    OrdersCommandFault → Type 0
IsOrdersCommandFault wanted packets input old new fault.ReadFailed = Keeps old new
IsOrdersCommandFault wanted packets input old new fault.TooLong = (max_capture < length input) × Keeps old new
IsOrdersCommandFault wanted packets input old new (fault.Air why) = HasNoOrders wanted input old new (fault.Air why)
IsOrdersCommandFault wanted packets input old new (fault.NoTime packet) =
    HasNoOrders wanted input old new (fault.NoTime packet)
IsOrdersCommandFault wanted packets input old new (fault.Early packet first_slot) =
    HasNoOrders wanted input old new (fault.Early packet first_slot)
IsOrdersCommandFault wanted packets input old new fault.Refused = Keeps old new
IsOrdersCommandFault wanted packets input old new fault.WriteFailed =
    (passed : PassedOver) × (output : List ℕ) × IsOrdersOutput wanted packets passed input output
    × AppendsFront old new output

-- the fault that a fault of a file is reported as, name by name as in the code
abbrev pub orders_fault_by : AirFault → AirFaultKind → OrdersCommandFault
orders_fault_by why kind.Refused = fault.Refused
orders_fault_by why other = fault.Air why

abbrev pub orders_fault_of : AirFault → OrdersCommandFault
orders_fault_of why = orders_fault_by why why.kind

-- and a fault of messages
abbrev pub fault_of_orders : OrdersFault → OrdersCommandFault
fault_of_orders (orders.NoTime packet) = fault.NoTime packet
fault_of_orders (orders.Early packet first_slot) = fault.Early packet first_slot
fault_of_orders orders.Refused = fault.Refused

-- the fault of a failed writer
abbrev pub IsOrdersWriteFault : OrdersCommandFault → Type 0
IsOrdersWriteFault f = f ≡ fault.WriteFailed
