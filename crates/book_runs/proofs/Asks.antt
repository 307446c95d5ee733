-- A session of a book, each order of which is for some cells, asks some cells by each request.
use Rattle.std.proofs.Common.{◌≡◌, ℕ, true, not, Option, Some, None, List, [], ◌∷◌, length, map}
use Rattle.std.proofs.Common.{refl, subst}
use Rattle.std.specs.Prelude.{nat_lt}
use Rattle.std.specs.List.{All}
use Rattle.std.proofs.lemmas.List.Elements.{All-cons, All-filter, All-head, All-map, All-nil, All-tail, All-weaker}
use Rattle.std.proofs.lemmas.List.Elements.{filter_passes}
use Rattle.cbs_page.specs.declared.paging.Paged.{Paged}
use Rattle.cbsp_wire.specs.declared.message.Cell.{Cell}
use Rattle.cbsp_wire.specs.declared.message.Message.{Message}
use Rattle.cbsp_wire.specs.Range.{is_nothing}
use Rattle.alert_book.specs.declared.book.order.Action.{Action}
use Rattle.alert_book.specs.declared.book.order.Action.TheVariants as action
use Rattle.alert_book.specs.declared.book.order.Order.{Order}
use Rattle.alert_book.specs.declared.session.request.Request.{Request}
use Rattle.alert_book.specs.declared.session.request.Target.{Target}
use Rattle.alert_book.specs.Book.{Contents}
use Rattle.alert_book.specs.Network as network
use Rattle.alert_book.specs.Session.{Replied, Standing, advanced, after_reply, due_requests, found_first, has_cells}
use Rattle.alert_book.specs.Session.{is_of_part, next_requests, orders_from, orders_with, outcome_in, replies_with}
use Rattle.alert_book.specs.Session.{requests_by, requests_of, stop_request, targets_of, target_of, update_request}
use Rattle.alert_book.specs.Session.{version_in, versions}
use Rattle.alert_book.specs.Turns.{begun}
use Rattle.book_runs.specs.CellParts.{asks_some}
use Rattle.alert_book.specs.Restricted.{PagedOrder, is_for_some}
use Rattle.book_runs.proofs.KeptRequests.{Belief}
use Rattle.book_runs.proofs.KeptSessions.{pending}

-- a request asks some cell
abbrev pub IsAsking : Request → Type 0
IsAsking r = asks_some r ≡ true

-- an order is for some cell
abbrev pub IsForSome : PagedOrder → Type 0
IsForSome o = is_for_some o ≡ true

some_there : (cells : List Cell) → nat_lt 0 (length cells) ≡ true → not (is_nothing cells) ≡ true
some_there [] some = absurd (cc)
some_there (c ∷ cells) some = refl

targets_ask : (live : Belief) (number : ℕ) (cells : List Cell) (make : Target → Request)
    → ((t : Target) → nat_lt 0 (length t.cells) ≡ true → IsAsking (make t))
    → All IsAsking (map make (targets_of live number cells))
targets_ask live number cells make asks =
    All-map IsAsking make (targets_of live number cells)
    (All-weaker (λ (t : Target). has_cells t ≡ true) (λ (t : Target). IsAsking (make t)) asks
    (targets_of live number cells)
    (filter_passes has_cells (map (target_of live number cells) versions)))

row_asks : (live : Belief) (order : Order) (sends : Action) (paged : Option Paged)
    → not (is_nothing (network.cells_of_action sends)) ≡ true → All IsAsking (requests_by live order sends paged)
row_asks live order (action.Write sending) None some = All-nil IsAsking
row_asks live order (action.Write sending) (Some paged) some =
    All-cons IsAsking _ [] some (All-nil IsAsking)
row_asks live order (action.Update version sending) None some = All-nil IsAsking
row_asks live order (action.Update version sending) (Some paged) some =
    targets_ask live order.number sending.cells (update_request order sending paged version)
    (λ t there. some_there t.cells there)
row_asks live order (action.Stop cells) None some =
    targets_ask live order.number cells (stop_request order) (λ t there. some_there t.cells there)
row_asks live order (action.Stop cells) (Some paged) some =
    targets_ask live order.number cells (stop_request order) (λ t there. some_there t.cells there)

-- what is due asks some cells, and what is left is for some
pub record AskSome (requests : List Request) (orders : List PagedOrder) : Type 0 where
  pub due : All IsAsking requests
  pub left : All IsForSome orders

next_asks : (live : Belief) (left : List PagedOrder) → All IsForSome left
    → AskSome (next_requests live left).0 (next_requests live left).1
next_asks live [] each = record { due = All-nil IsAsking; left = each }
next_asks live (o ∷ left) each =
    by_due (requests_of live o.0 o.1) (row_asks live o.0 o.0.action o.1 (All-head IsForSome o left each))
    (All-tail IsForSome o left each) (next_asks live left (All-tail IsForSome o left each))
  where
    by_due : (due : List Request) → All IsAsking due → All IsForSome left
        → AskSome (next_requests live left).0 (next_requests live left).1
        → AskSome (found_first due left (next_requests live left)).0
        (found_first due left (next_requests live left)).1
    by_due [] asks rest later = later
    by_due (r ∷ due) asks rest later = record { due = asks; left = rest }

due_asks : (live : Belief) (due : List Request) (left : List PagedOrder) → AskSome due left
    → AskSome (due_requests live due left).0 (due_requests live due left).1
due_asks live [] left asks = next_asks live left asks.left
due_asks live (r ∷ due) left asks = asks

-- a session whose requests all ask some cells
abbrev pub Asks : Standing → Type 0
Asks s = AskSome (pending s.sent s.due) s.left

asks_advanced : (replies : List Replied) (row : ℕ) (due : List Request) (left : List PagedOrder)
    → AskSome due left → Asks (advanced replies row (due, left))
asks_advanced replies row [] left asks = asks
asks_advanced replies row (r ∷ due) left asks = asks

-- a session whose requests and orders ask some cells does so after a reply
pub asks_after : (reply : Option Message) (s : Standing) → AskSome s.due s.left → Asks (after_reply reply s)
asks_after reply s asks =
    let replies : List Replied = replies_with s.sent (outcome_in s.sent reply) s.replies in
    let found : List Request × List PagedOrder = due_requests (version_in replies) s.due s.left in
    asks_advanced replies s.row found.0 found.1 (due_asks (version_in replies) s.due s.left asks)

-- the request that it has sent asks some
pub asks_first : (s : Standing) (request : Request) → s.sent ≡ Some request → Asks s
    → asks_some request ≡ true
asks_first s request sent asks =
    All-head IsAsking request s.due
    (subst (λ (r : Option Request). All IsAsking (pending r s.due)) sent asks.due)

-- and so do those that are due after it
pub asks_later : (s : Standing) (request : Request) → s.sent ≡ Some request → Asks s → AskSome s.due s.left
asks_later s request sent asks = record {
  due = All-tail IsAsking request s.due
      (subst (λ (r : Option Request). All IsAsking (pending r s.due)) sent asks.due);
  left = asks.left;
}

-- the orders of a book, each of which is for some cells
orders_ask : (orders : List Order) (pages : List (Option Paged))
    → All (λ o. network.has_cells o ≡ true) orders → All IsForSome (orders_with orders pages)
orders_ask [] pages each = All-nil IsForSome
orders_ask (o ∷ orders) [] each = All-nil IsForSome
orders_ask (o ∷ orders) (p ∷ pages) each =
    All-cons IsForSome (o, p) (orders_with orders pages)
    (All-head (λ (x : Order). network.has_cells x ≡ true) o orders each)
    (orders_ask orders pages (All-tail (λ (x : Order). network.has_cells x ≡ true) o orders each))

-- a session begins so where each order is for some cell
pub begun_asks : (book : Contents) (part parts : ℕ) → All (λ o. network.has_cells o ≡ true) book.orders
    → Asks (begun book part parts)
begun_asks book part parts each =
    let left = All-filter (is_of_part part parts) IsForSome (orders_with book.orders book.pages)
    (orders_ask book.orders book.pages each) in
    let found : List Request × List PagedOrder =
    due_requests (version_in []) [] (orders_from book part parts 0) in
    asks_advanced [] 0 found.0 found.1
    (due_asks (version_in []) [] (orders_from book part parts 0) (record { due = All-nil IsAsking; left = left }))
