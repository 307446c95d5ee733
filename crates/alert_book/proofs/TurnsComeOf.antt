-- Each request of a session comes of an order of the book.
use Rattle.std.proofs.Common.{◌≡◌, ℕ, Option, Some, None, List, [], ◌∷◌, All, refl, ap, sym}
use Rattle.std.specs.List.{Any, Contains}
use Rattle.std.proofs.lemmas.List.Elements.{All-cons, All-contains_itself, All-head, All-map, All-nil}
use Rattle.std.proofs.lemmas.List.Elements.{All-tail, All-weaker}
use Rattle.cbs_page.specs.declared.paging.Paged.{Paged}
use Rattle.cbsp_wire.specs.declared.message.Cell.{Cell}
use Rattle.alert_book.specs.declared.book.order.Action.{Action}
use Rattle.alert_book.specs.declared.book.order.Action.TheVariants as action
use Rattle.alert_book.specs.declared.book.order.Order.{Order}
use Rattle.alert_book.specs.declared.session.request.Request.{Request}
use Rattle.alert_book.specs.Book.{sending_of, ArePagesOf, HavePages}
use Rattle.alert_book.specs.Session.{orders_with, requests_by, requests_of, serial_of}
use Rattle.alert_book.specs.Session.{stop_request, targets_of, update_request}
use Rattle.alert_book.specs.TurnLaws.{ComesOf, RequestsComeOfOrders, version_of}
use Rattle.alert_book.proofs.TurnsKeep.{requests_kept}

-- a row's requests come of its order
requests_come : (live : ℕ → Cell → Option ℕ) (order : Order) (sends : Action) (paged : Option Paged) →
    order.action ≡ sends → ArePagesOf (sending_of sends) paged →
    All (λ request. ComesOf request order) (requests_by live order sends paged)
requests_come live order (action.Write sending) None is pages = absurd pages
requests_come live order (action.Write sending) (Some paged) is pages =
    All-cons (λ request. ComesOf request order) _ [] (record {
      row = refl;
      at = refl;
      sent = (sending, paged, ap sending_of is, pages, refl, refl, refl, refl, refl, refl, refl);
      serial = ap (λ (a : Action). serial_of order.alert (version_of a)) (sym is);
    }) (All-nil (λ request. ComesOf request order))
requests_come live order (action.Update version sending) None is pages = absurd pages
requests_come live order (action.Update version sending) (Some paged) is pages =
    All-map (λ request. ComesOf request order) (update_request order sending paged version)
    (targets_of live order.number sending.cells) (λ k d within. record {
      row = refl;
      at = refl;
      sent = (sending, paged, ap sending_of is, pages, refl, refl, refl, refl, refl, refl, refl);
      serial = ap (λ (a : Action). serial_of order.alert (version_of a)) (sym is);
    })
requests_come live order (action.Stop cells) None is pages =
    All-map (λ request. ComesOf request order) (stop_request order) (targets_of live order.number cells)
    (λ k d within. record { row = refl; at = refl; sent = (refl, refl); serial = tt })
requests_come live order (action.Stop cells) (Some paged) is pages = absurd pages

-- a request comes of one of these orders; an order that is left is one of them, with its pages
abbrev Comes : List Order → Request → Type 0
Comes orders request = Any (ComesOf request) orders

abbrev IsLeft : List Order → Order × Option Paged → Type 0
IsLeft orders next = Contains orders next.0 × ArePagesOf (sending_of next.0.action) next.1

-- so a row's requests do
row_comes : (live : ℕ → Cell → Option ℕ) (orders : List Order) (next : Order × Option Paged) → IsLeft orders next →
    All (Comes orders) (requests_of live next.0 next.1)
row_comes live orders next left =
    All-weaker (λ request. ComesOf request next.0) (Comes orders)
    (λ request comes. (left.0.0, next.0, left.0.1, left.0.2, comes)) (requests_of live next.0 next.1)
    (requests_come live next.0 next.0.action next.1 refl left.1)

-- the orders of a part are the book's, with their pages
with_known : (all orders : List Order) (pages : List (Option Paged)) → All (Contains all) orders →
    HavePages orders pages → All (IsLeft all) (orders_with orders pages)
with_known all [] [] within have = All-nil (IsLeft all)
with_known all [] (paged ∷ pages) within have = absurd have
with_known all (order ∷ orders) [] within have = absurd have
with_known all (order ∷ orders) (paged ∷ pages) within have =
    All-cons (IsLeft all) (order, paged) (orders_with orders pages)
    (All-head (Contains all) order orders within, have.0)
    (with_known all orders pages (All-tail (Contains all) order orders within) have.1)

-- so each request comes of an order of the book
pub requests_come_of_orders : RequestsComeOfOrders
requests_come_of_orders book part parts turns reached have goes =
    requests_kept (Comes book.orders) (IsLeft book.orders) (λ live next left. row_comes live book.orders next left) book
    part parts turns reached
    (with_known book.orders book.orders book.pages (All-contains_itself book.orders) have) goes
