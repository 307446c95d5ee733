-- How exchanges are kept while messages are heard (own). The contracts of private functions alone speak of it.
use Rattle.std.specs.Prelude.{◌≡◌, ℕ, suc, false, List, [], ◌∷◌, map, filter_map, Option, Some, None, is_none}
use Rattle.std.specs.Prelude.{option_map, option_to_list, option_and_then, if◌then◌else◌, Bool, ◌==◌, ◌&&◌}
use Rattle.csv.specs.Writing.{fields_written, has_written, text_written, writer_setup}
use Rattle.cbsp_wire.specs.declared.message.Cell.{Cell}
use Rattle.cell_orders.specs.declared.heard.Heard.{Heard}
use Rattle.cell_orders.specs.declared.exchange.Exchanges.{Exchanges}
use Rattle.cell_orders.specs.declared.exchange.HeldExchange.{HeldExchange}
use Rattle.cell_orders.specs.declared.exchange.Waiting.{Waiting}
use Rattle.cell_orders.specs.declared.row.OrderRow.{OrderRow}
use Rattle.cell_orders.specs.declared.text.OrdersText.{OrdersText}
use Rattle.cell_orders.specs.declared.exchange.Awaited.{Awaited}
use Rattle.cell_orders.specs.Exchange.{LinkExchange, awaited_by, is_brought}
use Rattle.cell_orders.specs.Rows.{row_of}
use Rattle.cell_orders.specs.Text.{orders_writer}

-- an exchange as it is held, by references
abbrev pub exchange_of : HeldExchange → LinkExchange
exchange_of held = record { order = held.order.now; answer = option_map (λ h. h.now) held.answer }

-- the places of all that began: an exchange that left its place left nothing there
abbrev pub places_of : List (Option HeldExchange) → List (Option LinkExchange)
places_of held = map (option_map exchange_of) held

-- those that are still in their places
abbrev pub standing : List (Option LinkExchange) → List LinkExchange
standing places = filter_map (λ place. place) places

-- an order that has no answer, and its place
pub record Wait : Type 0 where
  pub place : ℕ
  pub order : Heard

abbrev pub wait_of : Waiting → Wait
wait_of waiting = record { place = waiting.place; order = waiting.order.now }

-- the orders in these places, which count from n, that have no answer
abbrev pub wait_at : ℕ → LinkExchange → List Wait → List Wait
wait_at n e others = if is_none e.answer then record { place = n; order = e.order } ∷ others else others

abbrev pub waits : ℕ → List (Option LinkExchange) → List Wait
waits n [] = []
waits n (None ∷ places) = waits (suc n) places
waits n (Some e ∷ places) = wait_at n e (waits (suc n) places)

abbrev pub waits_kept : List Waiting → List Wait
waits_kept waiting = map wait_of waiting

-- what waits is what has no answer
abbrev pub IsConsistent : Exchanges → Type 0
IsConsistent s = waits_kept s.waiting.items ≡ waits 0 (places_of s.places.items)

abbrev pub standing_of : Exchanges → List LinkExchange
standing_of s = standing (places_of s.places.items)

-- the row of a place
abbrev pub rows_at : Cell → Option LinkExchange → List OrderRow
rows_at cell place = option_to_list (option_and_then (row_of cell) place)

-- whether a message that brings this answers another
abbrev pub answers_with : Option Awaited → Heard → Heard → Bool
answers_with brought h order =
    (h.connection == order.connection) && is_brought (awaited_by order.message) brought

-- the text has these octets, and the last of its rows is ended
pub record IsText (text : OrdersText) (octets : List ℕ) : Type 0 where
  pub text_is : text_written (λ v. Some v.items) text.writer ≡ Some octets
  pub setup : writer_setup text.writer ≡ orders_writer
  pub ended : fields_written text.writer ≡ 0
  pub clean : has_written text.writer ≡ false
