use Rattle.std.proofs.Common.{◌≤◌, ◌∙◌, [], List, ap, arith, length, rules}
use Rattle.device_ends.proofs.EndLaws.{ReadsUpTo-take}
use Rattle.gsmtap.specs.Heard.{IsHeardFault}
use Rattle.cell_orders.specs.declared.row.OrderRow.{OrderRow}
use Rattle.link_orders.specs.Orders.{AreNoOrdersIn, AreOrdersIn}
use Rattle.link_orders.specs.Overhearing.{IsOverhearingFault}
use Rattle.link_orders.specs.Steps.{IsOverhearing}
use Rattle.warnc_air.specs.OrdersOutput.{IsOrdersOutput, lines_text}
use Rattle.warnc_air.specs.TapeOutput.{IsCellsOutput, max_capture}
use Rattle.warnc_air.proofs.OrdersInput.{file_fault, of_whole, orders_fault, unmoved}
use Rattle.warnc_air.proofs.WholeInput.{output_out, too_long}
use Rattle.warnc_air.proofs.orders.orders_stream.Goals as goal

pub returns-then-count-gt-MAX_INPUT-clause-err : goal.returns-then-count-gt-MAX_INPUT-clause-err
returns-then-count-gt-MAX_INPUT-clause-err g c =
    let walks = c.in-Ok.ensures.walks in
    too_long IsHeardFault IsCellsOutput _ walks.octets _ _ (ReadsUpTo-take _ _ walks.octets max_capture walks.reads)
    (omega (arith, walks.many, c.if-count-gt-MAX_INPUT.true)) (search rules)

pub returns-in-Err-clause-err : goal.returns-in-Err-clause-err
returns-in-Err-clause-err g c =
    let walks = c.in-Ok.ensures.walks in
    let wanted = c.args.wanted.now in
    let is : IsOverhearing wanted.from walks.octets c.walk_over.new.walk =
    walks.taken wanted.from [] (c.new-walk.ensures wanted.from c.new.ensures) in
    let told : IsOverhearingFault wanted.from walks.octets c.in-Err.fault =
    c.in-Err.ensures.fault wanted.from walks.octets is in
    let short : length walks.octets ≤ max_capture = omega (arith, walks.many, c.if-count-gt-MAX_INPUT.false) in
    rw c.orders_fault_of.ensures
    (of_whole _ _ walks.octets (ReadsUpTo-take _ _ walks.octets max_capture walks.reads) short
    (file_fault wanted c.args.packets walks.octets _ _ c.in-Err.fault.packet c.in-Err.fault.kind short told
    (unmoved _)))

pub returns-in-Err-orders_of-clause-err : goal.returns-in-Err-orders_of-clause-err
returns-in-Err-orders_of-clause-err g c =
    let walks = c.in-Ok.ensures.walks in
    let wanted = c.args.wanted.now in
    let is : IsOverhearing wanted.from walks.octets c.walk_over.new.walk =
    walks.taken wanted.from [] (c.new-walk.ensures wanted.from c.new.ensures) in
    let none : AreNoOrdersIn wanted walks.octets c.in-Err-orders_of.fault =
    c.in-Err-orders_of.ensures.fault walks.octets (c.in-Ok-end.ensures.taken wanted.from walks.octets is) in
    let short : length walks.octets ≤ max_capture = omega (arith, walks.many, c.if-count-gt-MAX_INPUT.false) in
    rw c.fault_of_orders.ensures
    (of_whole _ _ walks.octets (ReadsUpTo-take _ _ walks.octets max_capture walks.reads) short
    (orders_fault wanted c.args.packets walks.octets _ _ c.in-Err-orders_of.fault short none (unmoved _)))

pub returns-in-Ok-write_all-clause-ok : goal.returns-in-Ok-write_all-clause-ok
returns-in-Ok-write_all-clause-ok g c =
    let walks = c.in-Ok.ensures.walks in
    let wanted = c.args.wanted.now in
    let is : IsOverhearing wanted.from walks.octets c.walk_over.new.walk =
    walks.taken wanted.from [] (c.new-walk.ensures wanted.from c.new.ensures) in
    let are : AreOrdersIn wanted walks.octets c.in-Ok-orders_of.orders =
    c.in-Ok-orders_of.ensures.orders walks.octets (c.in-Ok-end.ensures.taken wanted.from walks.octets is) in
    let made : IsOrdersOutput wanted c.args.packets c.passed_of.result walks.octets c.deref-2.result.now = record {
      orders = c.in-Ok-orders_of.orders;
      are = are;
      passed_is = c.passed_of.ensures;
      written =
          c.deref-2.ensures.value ∙ c.in-Ok-lines_of.ensures
          ∙ ap (λ (it : List OrderRow). lines_text c.args.packets it) c.deref.ensures.value;
    } in
    output_out (IsOrdersOutput wanted c.args.packets c.passed_of.result) _ walks.octets c.deref-2.result.now _ _
    (ReadsUpTo-take _ _ walks.octets max_capture walks.reads)
    (omega (arith, walks.many, c.if-count-gt-MAX_INPUT.false)) made c.in-Ok-write_all.ensures.ok

pub returns-clause-err : goal.returns-clause-err
returns-clause-err g c =
    let walks = c.in-Ok.ensures.walks in
    let wanted = c.args.wanted.now in
    let is : IsOverhearing wanted.from walks.octets c.walk_over.new.walk =
    walks.taken wanted.from [] (c.new-walk.ensures wanted.from c.new.ensures) in
    let are : AreOrdersIn wanted walks.octets c.in-Ok-orders_of.orders =
    c.in-Ok-orders_of.ensures.orders walks.octets (c.in-Ok-end.ensures.taken wanted.from walks.octets is) in
    let made : IsOrdersOutput wanted c.args.packets c.passed_of.result walks.octets c.deref-2.result.now = record {
      orders = c.in-Ok-orders_of.orders;
      are = are;
      passed_is = c.passed_of.ensures;
      written =
          c.deref-2.ensures.value ∙ c.in-Ok-lines_of.ensures
          ∙ ap (λ (it : List OrderRow). lines_text c.args.packets it) c.deref.ensures.value;
    } in
    of_whole _ _ walks.octets (ReadsUpTo-take _ _ walks.octets max_capture walks.reads)
    (omega (arith, walks.many, c.if-count-gt-MAX_INPUT.false))
    (c.passed_of.result, c.deref-2.result.now, made, c.in-Err-write_all.ensures.err)
