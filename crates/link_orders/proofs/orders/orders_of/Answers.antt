use Rattle.std.proofs.Common.{◌∙◌, List, subst}
use Rattle.std.proofs.lemmas.Result.{IfErr-weaker, IfOk-weaker}
use Rattle.link_streams.specs.declared.message.LinkPacket.{LinkPacket}
use Rattle.link_orders.specs.Orders.{AreNoOrders, AreOrders}
use Rattle.link_orders.specs.Steps.{begins_in}
use Rattle.link_orders.proofs.Overhearing.{no_orders_in, orders_in}
use Rattle.link_orders.proofs.orders.orders_of.Goals as goal

pub returns-clause-orders : goal.returns-clause-orders
returns-clause-orders c =
    IfOk-weaker c.orders_by.result _ _
    (λ orders are input all.
    orders_in c.args.wanted.now input c.args.overheard orders all
    (subst (λ (it : List LinkPacket). AreOrders c.args.wanted.now it (begins_in c.args.overheard) orders)
    (c.deref.ensures.value ∙ c.messages-messages.ensures) are))
    c.orders_by.ensures.orders

pub returns-clause-fault : goal.returns-clause-fault
returns-clause-fault c =
    IfErr-weaker c.orders_by.result _ _
    (λ fault are input all.
    no_orders_in c.args.wanted.now input c.args.overheard fault all
    (subst (λ (it : List LinkPacket). AreNoOrders c.args.wanted.now it (begins_in c.args.overheard) fault)
    (c.deref.ensures.value ∙ c.messages-messages.ensures) are))
    c.orders_by.ensures.fault
