use Rattle.order_desk.proofs.Orders.{valid_cells}
use Rattle.order_desk.proofs.desk.order.order_in.Goals as goal

pub returns-in-Ok-orders_of-clause-valid : goal.returns-in-Ok-orders_of-clause-valid
returns-in-Ok-orders_of-clause-valid c =
    valid_cells c.meaning_law.ensures.writable c.args.octets.now c.in-Ok-orders_of.order.0.items
    c.in-Ok-orders_of.order.1 (record {
      message = c.in-Ok.message;
      meant = c.in-Ok.ensures.meant;
      ordered = c.in-Ok-orders_of.ensures.order;
    })
