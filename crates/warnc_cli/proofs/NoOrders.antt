-- What `orders` writes and refuses: a table beside which it passed some messages over; and a fault of status 1 is one
-- of the input.
use Rattle.std.proofs.Common.{◌≡◌, ℕ, Bool, List, arith, inl, inr}
use Rattle.std.proofs.Common.{Option, None, Some, IfSome}
use Rattle.std.specs.Io.KnownBytes.{Appends}
use Rattle.device_ends.specs.Moves.{WritesOutput}
use Rattle.link_orders.specs.declared.orders.OrdersWanted.{OrdersWanted}
use Rattle.warnc_air.specs.OrdersOutput.{IsOrdersCommandFault, IsOrdersOutput}
use Rattle.warnc_air.specs.declared.orders.OrdersCommandFault.{OrdersCommandFault}
use Rattle.warnc_air.specs.declared.orders.OrdersCommandFault.TheVariants as fault
use Rattle.warnc_air.specs.declared.orders.PassedOver.{PassedOver}
use Rattle.warnc_cli.specs.Status.{status_of_orders_fault}
use Rattle.warnc_cli.specs.Tasks.{IsNoOrders, Means}
use Rattle.warnc_cli.specs.declared.command.Task.TheVariants as task

of_input : (wanted : OrdersWanted) (packets : Bool) (passed : PassedOver) (input old new : Option (List ℕ))
    → IfSome input (λ octets. (output : List ℕ) × IsOrdersOutput wanted packets passed octets output
    × Appends old new output)
    → IfSome input (λ octets. (output : List ℕ) × Means (task.Orders wanted packets) octets output
    × Appends old new output)
of_input wanted packets passed None old new wrote = tt
of_input wanted packets passed (Some octets) old new wrote = (wrote.0, (passed, wrote.1), wrote.2)

-- a table beside which these messages were passed over is one beside which some were
pub orders_written : (wanted : OrdersWanted) (packets : Bool) (passed : PassedOver) (input old new : Option (List ℕ))
    → WritesOutput (IsOrdersOutput wanted packets passed) input old new
    → WritesOutput (Means (task.Orders wanted packets)) input old new
orders_written wanted packets passed input old new wrote =
    let some = wrote.of_some in
    record {
      of_input = of_input wanted packets passed input old new wrote.of_input;
      of_some = (some.0, some.1, (passed, some.2), some.3);
    }

refused_here : (wanted : OrdersWanted) (packets : Bool) (input : List ℕ) (old new : Option (List ℕ))
    (why : OrdersCommandFault)
    → IsOrdersCommandFault wanted packets input old new why
    → status_of_orders_fault why ≡ 1
    → IsNoOrders wanted input
refused_here wanted packets input old new fault.ReadFailed told is = absurd (omega (arith, is))
refused_here wanted packets input old new fault.TooLong told is = inl told.0
refused_here wanted packets input old new (fault.Air why) told is = inr (fault.Air why, told.1)
refused_here wanted packets input old new (fault.NoTime packet) told is = inr (fault.NoTime packet, told.1)
refused_here wanted packets input old new (fault.Early packet first_slot) told is =
    inr (fault.Early packet first_slot, told.1)
refused_here wanted packets input old new fault.Refused told is = absurd (omega (arith, is))
refused_here wanted packets input old new fault.WriteFailed told is = absurd (omega (arith, is))

-- a fault of `orders` with status 1 says that the capture has no table of the orders
pub refused_orders : (left : Option (List ℕ)) (wanted : OrdersWanted) (packets : Bool) (old new : Option (List ℕ))
    (why : OrdersCommandFault)
    → IfSome left (λ input. IsOrdersCommandFault wanted packets input old new why)
    → status_of_orders_fault why ≡ 1
    → IfSome left (IsNoOrders wanted)
refused_orders None wanted packets old new why told is = tt
refused_orders (Some input) wanted packets old new why told is =
    refused_here wanted packets input old new why told is
