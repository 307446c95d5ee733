-- Those before the order are packed.
use Rattle.std.proofs.Common.{take}
use Rattle.std.specs.List.{AllZip}
use Rattle.alert_book.specs.PackingSteps.{IsOrderPacked}
use Rattle.alert_book.proofs.book.packing.pack_in_turn.Given as goal

abbrev pub invariant-loop-order : goal.invariant-loop-order
invariant-loop-order l = AllZip IsOrderPacked (take l.order-index l.orders) l.packed.items
