-- The order's is put behind those before it.
use Rattle.std.proofs.lemmas.List.{take_more}
use Rattle.rayon.proofs.ListFacts.{AllZip-append}
use Rattle.alert_book.specs.PackingSteps.{IsOrderPacked}
use Rattle.alert_book.proofs.book.packing.pack_in_turn.Goals as goal

pub loop-order-preserved : goal.loop-order-preserved
loop-order-preserved c =
    rw (
      c.in_ok-push.ensures.items,
      take_more c.args.orders.now c.loop-order.order-index c.order-item.result
          c.loop-order-test.true,
      ← c.order-item.is,
    )
    (AllZip-append IsOrderPacked _ _ _ _ c.loop-order.invariant (c.pack_order.ensures, tt))
