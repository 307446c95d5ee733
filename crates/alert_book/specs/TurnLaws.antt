-- What holds of the turns of every session, by its definition alone, whatever the replies say. Own.
use Rattle.std.specs.Prelude.{◌≡◌, ◌≢◌, ⊤, ℕ, ◌+◌, ◌*◌, ◌%◌, ◌<◌, ◌≤◌, ◌==◌, true, Option, Some, None, List}
use Rattle.std.specs.Prelude.{length, filter, All, Any}
use Rattle.cbsp_wire.specs.Range.{is_writable}
use Rattle.cbs_page.specs.declared.paging.Paged.{Paged}
use Rattle.cbsp_wire.specs.declared.message.Cell.{Cell}
use Rattle.cbsp_wire.specs.declared.message.Message.{Message}
use Rattle.cbsp_wire.specs.declared.message.Message.TheVariants as messages
use Rattle.alert_book.specs.declared.book.order.Action.{Action}
use Rattle.alert_book.specs.declared.book.order.Action.TheVariants as action
use Rattle.alert_book.specs.declared.book.order.Order.{Order}
use Rattle.alert_book.specs.declared.book.order.Sending.{Sending}
use Rattle.alert_book.specs.declared.session.request.Request.{Request}
use Rattle.alert_book.specs.declared.network.Origin.{Origin}
use Rattle.alert_book.specs.Book.{Contents, HavePages, ArePagesOf, sending_of}
use Rattle.alert_book.specs.Origin.{IsBookFrom}
use Rattle.alert_book.specs.Session.{after_reply, serial_of, Standing}
use Rattle.alert_book.specs.Turns.{begun, GoesTo, is_asked, Turn}

-- how many requests a session can still give at most: a row gives at most 16, one for each version
abbrev pub most_requests : Standing → ℕ
most_requests s = length s.due + 17 * length s.left

-- a session with one more request can give fewer after it
abbrev pub SessionsEnd : Type 0
SessionsEnd = (reply : Option Message) (s : Standing)
    → (after_reply reply s).sent ≢ None
    → most_requests (after_reply reply s) < most_requests s

-- the orders of a part of a book
abbrev pub orders_in : Contents → (part parts : ℕ) → List Order
orders_in book part parts = filter (λ order. order.number % parts == part) book.orders

-- a row asks a cell once at most, so no session asks one more often than its part of the book has orders
abbrev pub AsksOncePerOrder : Type 0
AsksOncePerOrder = (book : Contents) (part parts : ℕ) (turns : List Turn) (reached : Standing) (cell : Cell)
    → GoesTo (begun book part parts) turns reached
    → length (filter (is_asked cell) turns) ≤ length (orders_in book part parts)

-- the message of a request: a write has the identifier of the order's alert and the pages of the order's text, and asks
-- for what the order asks; a kill has the alert's identifier. Neither names a channel
abbrev pub IsSentFor : Order → Message → Type 0
IsSentFor order (messages.Write id new old cells channel category period broadcasts dcs contents) =
    (sending : Sending) × (paged : Paged) × (sending_of order.action ≡ Some sending)
    × ArePagesOf (Some sending) (Some paged) × (id ≡ order.alert.id) × (channel ≡ None)
    × (category ≡ Some sending.category) × (period ≡ sending.period) × (broadcasts ≡ sending.broadcasts)
    × (dcs ≡ paged.dcs) × (contents ≡ paged.pages.items)
IsSentFor order (messages.Kill id old cells channel) = (id ≡ order.alert.id) × (channel ≡ None)
IsSentFor order reply = ⊥

-- the version of its alert that a row sends, by its update number: a write's is 0
abbrev pub version_of : Action → ℕ
version_of (action.Write sending) = 0
version_of (action.Update update sending) = update
version_of (action.Stop cells) = 0

-- a write has the serial number of the version that its row sends
abbrev pub HasSerial : Order → Message → Type 0
HasSerial order (messages.Write id new old cells channel category period broadcasts dcs contents) =
    new ≡ serial_of order.alert (version_of order.action)
HasSerial order other = ⊤

-- a request comes of an order of the book: it has its row and its slot, and sends its text as the version that it is
pub record ComesOf (request : Request) (order : Order) : Type 0 where
  pub row : request.row ≡ order.row
  pub at : request.at ≡ order.at
  pub sent : IsSentFor order request.message
  pub serial : HasSerial order request.message

abbrev pub RequestsComeOfOrders : Type 0
RequestsComeOfOrders = (book : Contents) (part parts : ℕ) (turns : List Turn) (reached : Standing)
    → HavePages book.orders book.pages
    → GoesTo (begun book part parts) turns reached
    → All (λ turn. Any (ComesOf turn.request) book.orders) turns

-- each request of a book's session has a message that can be written
abbrev pub RequestsAreWritable : Type 0
RequestsAreWritable = (from : Origin) (input : List ℕ) (book : Contents) (part parts : ℕ) (turns : List Turn)
    (reached : Standing)
    → IsBookFrom from input book
    → GoesTo (begun book part parts) turns reached
    → All (λ turn. is_writable turn.request.message ≡ true) turns
