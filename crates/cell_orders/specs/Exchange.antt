-- What a centre asked of a cell, each with its answer. 3GPP TS 48.049, clause 8.1.3, has the messages; which answer is
-- whose is own.
use Rattle.std.specs.Prelude.{ℕ, ◌==◌, ◌&&◌, ◌||◌, Bool, true, false, if◌then◌else◌, List, [], ◌∷◌, ◌++◌, find, fold}
use Rattle.std.specs.Prelude.{Option, Some, None, is_none}
use Rattle.std.specs.Option.{option_eq}
use Rattle.cbsp_wire.specs.declared.message.Cell.{Cell}
use Rattle.cbsp_link.specs.declared.message.Answered.{Answered}
use Rattle.cbsp_link.specs.declared.message.Answered.TheVariants as orders
use Rattle.cbsp_link.specs.declared.message.LinkMessage.{LinkMessage}
use Rattle.cbsp_link.specs.declared.message.LinkMessage.TheVariants as messages
use Rattle.cell_orders.specs.declared.heard.Heard.{Heard}
use Rattle.cell_orders.specs.declared.exchange.Awaited.{Awaited}
use Rattle.cell_orders.specs.declared.exchange.Awaited.TheVariants as awaited
use Rattle.cell_orders.specs.Naming.{lists_cell, fails_cell}

-- whether a message asks something of the cell, or says that the cell lost its messages: an order whose list names the
-- cell, RESET that names it, RESTART that names it and says that messages of the broadcast channel (type 0) are lost
-- (recovery 1), and FAILURE of that channel that names it
abbrev pub concerns : Cell → LinkMessage → Bool
concerns cell (messages.Write id new_serial old_serial cells channel category period broadcasts dcs contents) =
    lists_cell cells cell
concerns cell (messages.Kill id old_serial cells channel) = lists_cell cells cell
concerns cell (messages.Reset cells) = lists_cell cells cell
concerns cell (messages.Restart cells broadcast_type recovery) =
    (broadcast_type == 0) && (recovery == 1) && lists_cell cells cell
concerns cell (messages.Failure failures broadcast_type) = (broadcast_type == 0) && fails_cell failures cell
concerns cell other = false

-- what a message waits for: the reply to its order, or the one to RESET
abbrev pub awaited_by : LinkMessage → Option Awaited
awaited_by (messages.Write id new_serial old_serial cells channel category period broadcasts dcs contents) =
    Some (awaited.Reply id (orders.Write new_serial old_serial))
awaited_by (messages.Kill id old_serial cells channel) = Some (awaited.Reply id (orders.Kill old_serial))
awaited_by (messages.Reset cells) = Some awaited.End
awaited_by other = None

-- what a message is: the reply to an order, whatever cells it names; or, if it names the cell, the one to RESET
abbrev pub end_if : Bool → Option Awaited
end_if names_cell = if names_cell then Some awaited.End else None

abbrev pub brought_by : Cell → LinkMessage → Option Awaited
brought_by cell (messages.Done id order completed cells channel) = Some (awaited.Reply id order)
brought_by cell (messages.Failed id order failures completed cells channel) = Some (awaited.Reply id order)
brought_by cell (messages.ResetDone cells) = end_if (lists_cell cells cell)
brought_by cell (messages.ResetFailed failures cells) = end_if (fails_cell failures cell || lists_cell cells cell)
brought_by cell other = None

-- the same order: equal serial numbers
abbrev pub same_old_serial : Option ℕ → Option ℕ → Bool
same_old_serial one other = option_eq (λ a b. a == b) one other

abbrev pub same_order : Answered → Answered → Bool
same_order (orders.Write new_serial old_serial) (orders.Write new_other old_other) =
    (new_serial == new_other) && same_old_serial old_serial old_other
same_order (orders.Kill old_serial) (orders.Kill old_other) = old_serial == old_other
same_order (orders.Write new_serial old_serial) (orders.Kill old_other) = false
same_order (orders.Kill old_serial) (orders.Write new_other old_other) = false

abbrev pub same_awaited : Awaited → Awaited → Bool
same_awaited (awaited.Reply id order) (awaited.Reply id_other order_other) =
    (id == id_other) && same_order order order_other
same_awaited awaited.End awaited.End = true
same_awaited (awaited.Reply id order) awaited.End = false
same_awaited awaited.End (awaited.Reply id order) = false

-- whether what is brought is what is waited for
abbrev pub is_brought : Option Awaited → Option Awaited → Bool
is_brought (Some one) (Some other) = same_awaited one other
is_brought (Some one) None = false
is_brought None other = false

-- whether a message answers another of the same connection
abbrev pub answers : Cell → Heard → Heard → Bool
answers cell h order =
    (h.connection == order.connection) && is_brought (awaited_by order.message) (brought_by cell h.message)

-- what concerns the cell, and its answer, if it came; RESTART and FAILURE are their own
pub record LinkExchange : Type 0 where
  pub order : Heard
  pub answer : Option Heard

abbrev pub exchange_begun : Heard → LinkExchange
exchange_begun h = record { order = h; answer = if is_none (awaited_by h.message) then Some h else None }

abbrev pub answered : Heard → LinkExchange → LinkExchange
answered h e = record { order = e.order; answer = Some h }

-- whether one waits for this message
abbrev pub waits_for : Cell → Heard → LinkExchange → Bool
waits_for cell h e = is_none e.answer && answers cell h e.order

-- without the first that passes a test
abbrev pub without_first : {X : Type 0} → (X → Bool) → List X → List X
without_first test [] = []
without_first test (x ∷ xs) = if test x then xs else x ∷ without_first test xs

-- the first that waits for this message leaves its place, and stands at the end with it
abbrev pub moved : Cell → Heard → List LinkExchange → Option LinkExchange → List LinkExchange
moved cell h es None = es
moved cell h es (Some e) = without_first (waits_for cell h) es ++ answered h e ∷ []

abbrev pub after_answer : Cell → Heard → List LinkExchange → List LinkExchange
after_answer cell h es = moved cell h es (find (waits_for cell h) es)

-- the exchanges after one message more: what concerns the cell stands at the end, and so does what is answered
abbrev pub after_heard : Cell → List LinkExchange → Heard → List LinkExchange
after_heard cell es h = if concerns cell h.message then es ++ exchange_begun h ∷ [] else after_answer cell h es

-- those of a list of messages, in the order of their answers; what has none stands where it came
abbrev pub exchanges : Cell → List Heard → List LinkExchange
exchanges cell heard = fold (after_heard cell) [] heard
