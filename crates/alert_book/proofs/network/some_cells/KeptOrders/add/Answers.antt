use Rattle.std.proofs.Common.{◌∙◌, ◌++◌, ◌<◌, List, Option, ap, arith, filter, length, map, subst, sym}
use Rattle.std.specs.List.{AllZip}
use Rattle.cbs_page.specs.declared.paging.Paged.{Paged}
use Rattle.cbsp_wire.specs.declared.message.Cell.{Cell}
use Rattle.alert_book.specs.Laws.{HaveSamePages}
use Rattle.alert_book.specs.Network.{cells_of_action}
use Rattle.alert_book.specs.Restricted.{PagedOrder, in_part}
use Rattle.alert_book.proofs.RestrictedLaws.{kept_some, same_more, some_if}
use Rattle.alert_book.proofs.network.some_cells.KeptOrders.add.Goals as goal

pub returns-clause-pages : goal.returns-clause-pages
returns-clause-pages c = λ pages same.
    let keep = in_part c.args.these.now in
    let some : 0 < length (filter keep (cells_of_action c.args.order.now.action)) =
    subst (λ (cells : List Cell). 0 < length cells) (c.in_ok-cells.ensures ∙ ap (filter keep) c.cells_of.ensures)
    (let long = some_if c.in_ok-cells.cells.len (sym c.is_empty.ensures ∙ c.if-is_empty.false) in
    omega (arith, long, c.in_ok-cells.cells.ok.0)) in
    subst (λ (l : List (Option Paged)). AllZip HaveSamePages l c.push-2.new.self.items)
    (ap (λ (l : List PagedOrder). pages ++ map (λ (o : PagedOrder). o.1) l)
    (sym (kept_some keep c.args.order.now c.args.paged.now some)))
    (rw c.in_ok-push-2.ensures.items
    (same_more pages c.args.self.now.pages.items c.args.paged.now c.in_ok-copy.copy same c.in_ok-copy.ensures.same))
