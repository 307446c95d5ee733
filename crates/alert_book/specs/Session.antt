-- A session: the messages that the rows of a book's alerts give, one after the other, by the replies so far. Own.
--
-- A session keeps, for each alert and cell, the version that it believes live there. A `write` gives one message for
-- all its cells. An `update` or a `stop` gives one message for each version that is live, at the beginning of the row,
-- in some of its cells, in the order of the versions; cells where none is live are left out. What a reply says of that,
-- reply_outcome has.
use Rattle.std.specs.Prelude.{◌≡◌, ◌≢◌, ⊤, ℕ, ◌%◌, ◌==◌, ◌&&◌, Bool, false, if◌then◌else◌, Option, Some, None}
use Rattle.std.specs.Prelude.{List}
use Rattle.std.specs.Prelude.{[], ◌∷◌, drop, filter, length, map, nat_lt}
use Rattle.std.specs.Prelude.{Vec}
use Rattle.std.specs.Global.{Global}
use Rattle.std.specs.List.{range_with_len}
use Rattle.cbs_page.specs.declared.paging.Paged.{Paged}
use Rattle.cbs_page.specs.Serial.{serial_number}
use Rattle.cbsp_wire.specs.declared.message.Cell.{Cell}
use Rattle.cbsp_wire.specs.declared.message.Message.{Message}
use Rattle.cbsp_wire.specs.declared.message.Message.TheVariants as messages
use Rattle.cbsp_wire.specs.Meaning.{IsMessage}
use Rattle.cbsp_wire.specs.CellLists.{contains}
use Rattle.cbsp_wire.specs.Refusals.{first_fault}
use Rattle.cbsp_wire.specs.Written.{octets_of_message}
use Rattle.reply_outcome.specs.declared.outcome.Outcome.{Outcome}
use Rattle.reply_outcome.specs.Replies.{cells_asked, outcome_of, version_by_reply}
use Rattle.alert_book.specs.declared.book.order.Action.{Action}
use Rattle.alert_book.specs.declared.book.order.Action.TheVariants as action
use Rattle.alert_book.specs.declared.book.order.Alert.{Alert}
use Rattle.alert_book.specs.declared.book.order.Order.{Order}
use Rattle.alert_book.specs.declared.book.order.Sending.{Sending}
use Rattle.alert_book.specs.declared.session.request.Request.{Request}
use Rattle.alert_book.specs.declared.session.request.Target.{Target}
use Rattle.alert_book.specs.Book.{Contents}

-- the versions that an alert can have, by their update numbers
abbrev pub versions : List ℕ
versions = range_with_len 0 16

-- a request, and what its reply says
pub record Replied : Type 0 where
  pub request : Request
  pub outcome : Outcome

-- the version in a cell that a request asked, after what its reply says
abbrev pub version_after_reply : Request → Outcome → Cell → (before : Option ℕ) → Option ℕ
version_after_reply request outcome cell before = version_by_reply request.version outcome cell before

-- the version of an alert in a cell after what a reply says of these cells; other cells and alerts keep theirs
abbrev pub version_after : Request → Outcome → List Cell → (number : ℕ) → Cell → (before : Option ℕ) → Option ℕ
version_after request outcome cells number cell before =
    if (request.number == number) && contains cells cell then version_after_reply request outcome cell before
    else before

-- the version of an alert that is believed live in a cell, by the replies so far, the last one first
abbrev pub version_in : List Replied → (number : ℕ) → Cell → Option ℕ
version_in [] number cell = None
version_in (last ∷ earlier) number cell =
    version_after last.request last.outcome (cells_asked last.request.message) number cell
    (version_in earlier number cell)

abbrev pub is_version : (version : ℕ) → Option ℕ → Bool
is_version version None = false
is_version version (Some live) = live == version

-- of some cells those where this version of an alert is believed live
abbrev pub cells_with : (live : ℕ → Cell → Option ℕ) → (number version : ℕ) → List Cell → List Cell
cells_with live number version cells = filter (λ c. is_version version (live number c)) cells

-- the versions that are believed live in some of these cells, in their order, each with its cells
abbrev pub target_of : (live : ℕ → Cell → Option ℕ) → (number : ℕ) → List Cell → (version : ℕ) → Target
target_of live number cells version = record { version = version; cells = cells_with live number version cells }

abbrev pub has_cells : Target → Bool
has_cells target = nat_lt 0 (length target.cells)

abbrev pub targets_of : (live : ℕ → Cell → Option ℕ) → (number : ℕ) → List Cell → List Target
targets_of live number cells = filter has_cells (map (target_of live number cells) versions)

-- the replies with the last one, if it says something
abbrev pub replies_with : Option Request → Option Outcome → List Replied → List Replied
replies_with None outcome earlier = earlier
replies_with (Some request) None earlier = earlier
replies_with (Some request) (Some outcome) earlier = record { request = request; outcome = outcome } ∷ earlier

-- what the reply to a request says, if there is one and it is one to that request
abbrev pub outcome_in : Option Request → (reply : Option Message) → Option Outcome
outcome_in None reply = None
outcome_in (Some request) None = None
outcome_in (Some request) (Some reply) = outcome_of request.message reply

-- the serial number of a version
abbrev pub serial_of : Alert → (version : ℕ) → ℕ
serial_of alert version = serial_number alert.scope alert.code version

abbrev pub serial_if : Alert → (version : Option ℕ) → Option ℕ
serial_if alert None = None
serial_if alert (Some version) = Some (serial_of alert version)

-- the message that has cells broadcast a version of an alert, in place of another one if there is one
abbrev pub write_of : Alert → Sending → Paged → (version : ℕ) → (replaced : Option ℕ) → List Cell → Message
write_of alert sending paged version replaced cells =
    messages.Write alert.id (serial_of alert version) (serial_if alert replaced) cells None (Some sending.category)
    sending.period sending.broadcasts paged.dcs paged.pages.items

-- the message that has cells stop a version
abbrev pub kill_of : Alert → (version : ℕ) → List Cell → Message
kill_of alert version cells = messages.Kill alert.id (serial_of alert version) cells None

abbrev pub request_with : Order → (version : Option ℕ) → Message → Request
request_with order version message =
    record { row = order.row; at = order.at; number = order.number; version = version; message = message }

-- a request to replace a version, and one to stop it, in the cells where it is live
abbrev pub update_request : Order → Sending → Paged → (version : ℕ) → Target → Request
update_request order sending paged version target =
    request_with order (Some version)
    (write_of order.alert sending paged version (Some target.version) target.cells)

abbrev pub stop_request : Order → Target → Request
stop_request order target = request_with order None (kill_of order.alert target.version target.cells)

-- the requests that a row gives, by the versions that are believed live at its beginning
abbrev pub requests_by : (live : ℕ → Cell → Option ℕ) → Order → Action → Option Paged → List Request
requests_by live order (action.Write sending) (Some paged) =
    request_with order (Some 0) (write_of order.alert sending paged 0 None sending.cells) ∷ []
requests_by live order (action.Update version sending) (Some paged) =
    map (update_request order sending paged version) (targets_of live order.number sending.cells)
requests_by live order (action.Stop cells) paged = map (stop_request order) (targets_of live order.number cells)
requests_by live order sends None = []

abbrev pub requests_of : (live : ℕ → Cell → Option ℕ) → Order → Option Paged → List Request
requests_of live order paged = requests_by live order order.action paged

-- what a reply's octets mean, if there are any and they mean something
abbrev pub IsReply : Option (List ℕ) → Option Message → Type 0
IsReply None None = ⊤
IsReply None (Some message) = ⊥
IsReply (Some octets) (Some message) = IsMessage octets message
IsReply (Some octets) None = first_fault octets ≢ None

-- how far a session has come: the replies that say something, the request whose reply is to come, the row of the last
-- request, the requests of that row that are still to be sent, and the orders of the rows after it, with their pages
pub record Standing : Type 0 where
  pub replies : List Replied
  pub sent : Option Request
  pub row : ℕ
  pub due : List Request
  pub left : List (Order × Option Paged)

abbrev pub standing_with : List Replied → Option Request → (row : ℕ) → List Request → List (Order × Option Paged)
    → Standing
standing_with replies sent row due left = record { replies = replies; sent = sent; row = row; due = due; left = left }

-- the requests of the first of some orders that gives one, and the orders after it
abbrev pub found_first : List Request → List (Order × Option Paged) → List Request × List (Order × Option Paged)
    → List Request × List (Order × Option Paged)
found_first [] left later = later
found_first (request ∷ due) left later = (request ∷ due, left)

abbrev pub next_requests : (live : ℕ → Cell → Option ℕ) → List (Order × Option Paged)
    → List Request × List (Order × Option Paged)
next_requests live [] = ([], [])
next_requests live (next ∷ left) = found_first (requests_of live next.0 next.1) left (next_requests live left)

-- the first of these requests is sent, if there is one
abbrev pub sent_first : List Replied → (row : ℕ) → List Request → List (Order × Option Paged) → Standing
sent_first replies row [] left = standing_with replies None row [] left
sent_first replies row (request ∷ due) left = standing_with replies (Some request) request.row due left

-- the next request: of the row under way, or else of the first row after it that gives one
abbrev pub due_requests : (live : ℕ → Cell → Option ℕ) → List Request → List (Order × Option Paged)
    → List Request × List (Order × Option Paged)
due_requests live [] left = next_requests live left
due_requests live (request ∷ due) left = (request ∷ due, left)

abbrev pub advanced : List Replied → (row : ℕ) → List Request × List (Order × Option Paged) → Standing
advanced replies row requests = sent_first replies row requests.0 requests.1

-- a session after the reply to its last request
abbrev pub after_reply : Option Message → Standing → Standing
after_reply reply s =
    let replies = replies_with s.sent (outcome_in s.sent reply) s.replies in
    advanced replies s.row (due_requests (version_in replies) s.due s.left)

-- the orders of a part: those of the alerts whose number, divided by the number of parts, leaves it
abbrev pub is_of_part : (part parts : ℕ) → Order × Option Paged → Bool
is_of_part part parts order = order.0.number % parts == part

abbrev pub orders_with : List Order → List (Option Paged) → List (Order × Option Paged)
orders_with [] pages = []
orders_with (order ∷ orders) [] = []
orders_with (order ∷ orders) (paged ∷ pages) = (order, paged) ∷ orders_with orders pages

-- the orders of a part, of a book's from this place on
abbrev pub orders_from : Contents → (part parts place : ℕ) → List (Order × Option Paged)
orders_from book part parts place =
    filter (is_of_part part parts) (orders_with (drop place book.orders) (drop place book.pages))

-- a session of a part of a book, before its first request
abbrev pub session_of : Contents → (part parts : ℕ) → Standing
session_of book part parts = standing_with [] None 0 [] (orders_from book part parts 0)

-- what a session gives with a request: its slot, and octets that mean its message, with the elements in the table's
-- order
pub record GivesRequest (request : Request) (at : ℕ) (octets : List ℕ) : Type 0 where
  pub slot : at ≡ request.at
  pub written : octets ≡ octets_of_message request.message
  pub meant : IsMessage octets request.message

abbrev pub IsGiven : Option Request → Option (ℕ × Vec ℕ Global) → Type 0
IsGiven None None = ⊤
IsGiven None (Some given) = ⊥
IsGiven (Some request) None = ⊥
IsGiven (Some request) (Some given) = GivesRequest request given.0 given.1.items
