use Rattle.std.proofs.Common.{◌≡◌, ◌≢◌, ◌∙◌, ◌+◌, ◌<◌, List, Option, length, get_or, sym, ap, subst, rules}
use Rattle.cbs_page.specs.declared.paging.Paged.{Paged}
use Rattle.alert_book.specs.declared.book.order.Order.{Order}
use Rattle.alert_book.specs.declared.session.request.Request.{Request}
use Rattle.alert_book.specs.Session.{next_requests, found_first, orders_from}
use Rattle.alert_book.specs.SessionSteps.{live_by, requests_in}
use Rattle.alert_book.proofs.SessionLaws.{first_from, found_some}
use Rattle.alert_book.proofs.session.next_requests.Goals as goal

pub returns-then-not-is_empty : goal.returns-then-not-is_empty
returns-then-not-is_empty c =
    let live = live_by c.args.live.now in
    let book = c.args.book.now in
    let left = orders_from book c.args.part c.args.parts (c.loop-place.place + 1) in
    let some : length c.in_ok-requests.requests.items ≢ 0 = search (rules, c.is_empty.ensures, c.if-not-is_empty.true)
    in
    let within : c.loop-place.place < length book.orders =
    subst (λ (orders : List Order). c.loop-place.place < length orders) c.orders-orders.ensures.orders
    c.loop-place-test.true in
    let order : get_or book.orders c.loop-place.place c.index-orders-place.result ≡ c.index-orders-place.result =
    search (rules, c.index-orders-place.is, c.orders-orders.ensures.orders) in
    let paged : get_or book.pages c.loop-place.place c.index-pages-place.result ≡ c.index-pages-place.result = search
    (rules, c.index-pages-place.is, c.pages-pages.ensures) in
    c.loop-place.invariant
    ∙ first_from live book c.args.part c.args.parts c.loop-place.place c.index-orders-place.result
    c.index-pages-place.result within (c.orders-orders.ensures.paged ∙ ap length c.orders-orders.ensures.orders)
    ∙ ap (λ (o : Order). found_first (requests_in live c.args.part c.args.parts o
    (get_or book.pages c.loop-place.place c.index-pages-place.result)) left (next_requests live left)) order
    ∙ ap (λ (p : Option Paged). found_first (requests_in live c.args.part c.args.parts c.index-orders-place.result p)
    left (next_requests live left)) paged
    ∙ ap (λ (due : List Request). found_first due left (next_requests live left)) (sym c.in_ok-requests.ensures)
    ∙ found_some c.in_ok-requests.requests.items left (next_requests live left) some
