use Rattle.std.proofs.Common.{◌∙◌, List, All, ap, refl, subst, sym}
use Rattle.std.proofs.lemmas.List.Elements.{All-filter}
use Rattle.cbsp_wire.specs.declared.message.Cell.{Cell}
use Rattle.alert_book.specs.declared.book.order.Order.{Order}
use Rattle.alert_book.specs.Network.{cells_of_group, has_cells, orders_in}
use Rattle.alert_book.specs.SendableSteps.{IsSendable}
use Rattle.alert_book.proofs.AllGroupsLaws.{group_book, sendable_in}
use Rattle.alert_book.proofs.PageLaws.{pages_length}
use Rattle.alert_book.proofs.network.all_groups.Network.group.Goals as goal

pub invariant_of-result : goal.invariant_of-result
invariant_of-result c =
    let orders = c.deref-3.result.now in
    let own = orders_in c.deref-2.result.now c.args.group orders c.deref-4.result.now in
    let all : All IsSendable orders =
    subst (λ (os : List Order). All IsSendable os) (sym c.deref-3.ensures.value) c.self.invariant.1 in (
      rw c.in_ok-orders.ensures.orders
          (All-filter has_cells IsSendable own
          (sendable_in c.deref-2.result.now c.args.group orders c.deref-4.result.now all)),
      pages_length c.in_ok-orders.field-0.orders.items c.in_ok-orders.field-0.pages.items
          c.in_ok-orders.ensures.pages,
    )

pub returns : goal.returns
returns c = λ input means.
    group_book c.args.self.now (record {
      cells = c.self.inside.cells.items;
      orders = c.self.inside.orders.items;
      named = c.self.inside.named.items;
    }) c.args.group input (record {
      cells = c.in_ok-cells.cells.items;
      orders = c.in_ok-orders.field-0.orders.items;
      pages = c.in_ok-orders.field-0.pages.items;
    }) c.self.view_is means c.requires
    (c.in_ok-cells.ensures.items ∙ c.part_of_group-own.ensures
    ∙ ap (λ (cells : List Cell). cells_of_group c.args.group cells) c.deref.ensures.value)
    (c.in_ok-orders.ensures.orders ∙ rw (c.deref-2.ensures.value, c.deref-3.ensures.value, c.deref-4.ensures.value)
    refl)
    c.in_ok-orders.ensures.pages
