-- How many orders of a book weren't done in its run (own): those that some cell refused, and those that asked no cell.
--
-- A `write` asks each cell that it names. An `update` or a `stop` asks none of them if no version of its alert is live
-- in any, and so it does nothing.
use Rattle.std.specs.Prelude.{ℕ, ◌+◌, Bool, true, false, if◌then◌else◌, not, List, [], ◌∷◌, map, slice_index_or}
use Rattle.std.specs.Prelude.{Option}
use Rattle.std.specs.List.{list_any, slice_get}
use Rattle.cbsp_wire.specs.declared.message.Cell.{Cell}
use Rattle.alert_book.specs.declared.book.order.Order.{Order}
use Rattle.bsc_table.specs.declared.entry.Entry.{Entry}
use Rattle.bsc_table.specs.Record.{Record}
use Rattle.asked_orders.specs.Asked.{asks, is_taken, taken_after}
use Rattle.asked_orders.specs.declared.lacks.Fate.{Fate}
use Rattle.asked_orders.specs.declared.lacks.Fate.TheVariants as fates
use Rattle.asked_orders.specs.declared.lacks.Lacks.{Lacks}

-- what became of an order that asked a cell by this entry
abbrev pub fate_of : Option Entry → Fate
fate_of next = if is_taken next then fates.Taken else fates.Refused

-- what became of orders in a cell, one after the other, where this many orders before them asked it
abbrev pub fates_from : Cell → (log : List Entry) → (asked : ℕ) → (accepted : List ℕ) → List Order → List Fate
fates_from cell log asked accepted [] = []
fates_from cell log asked accepted (order ∷ orders) =
    if asks order cell accepted (slice_get log asked)
    then fate_of (slice_get log asked)
    ∷ fates_from cell log (asked + 1) (taken_after accepted order (slice_get log asked)) orders
    else fates.Unasked ∷ fates_from cell log asked accepted orders

abbrev pub fates_in : List Order → Record → List Fate
fates_in orders r = fates_from r.cell r.log 0 [] orders

abbrev pub is_refusal : Fate → Bool
is_refusal fates.Unasked = false
is_refusal fates.Taken = false
is_refusal fates.Refused = true

abbrev pub has_asked : Fate → Bool
has_asked fates.Unasked = false
has_asked fates.Taken = true
has_asked fates.Refused = true

-- some cell refused the order at a place, by what became of the orders in each cell
abbrev pub is_refused_at : (cells : List (List Fate)) → (place : ℕ) → Bool
is_refused_at cells place = list_any (λ in_cell. is_refusal (slice_index_or in_cell place fates.Unasked)) cells

-- the order at a place asked some cell
abbrev pub is_asked_at : (cells : List (List Fate)) → (place : ℕ) → Bool
is_asked_at cells place = list_any (λ in_cell. has_asked (slice_index_or in_cell place fates.Unasked)) cells

abbrev pub one_if : Bool → ℕ
one_if counts = if counts then 1 else 0

-- how many orders some cell refused, of orders of which the first is at this place
abbrev pub refused_from : (cells : List (List Fate)) → (place : ℕ) → List Order → ℕ
refused_from cells place [] = 0
refused_from cells place (order ∷ orders) = one_if (is_refused_at cells place) + refused_from cells (place + 1) orders

-- and how many asked no cell
abbrev pub idle_from : (cells : List (List Fate)) → (place : ℕ) → List Order → ℕ
idle_from cells place [] = 0
idle_from cells place (order ∷ orders) = one_if (not (is_asked_at cells place)) + idle_from cells (place + 1) orders

abbrev pub lacks_by : List Order → (cells : List (List Fate)) → Lacks
lacks_by orders cells = record { refused = refused_from cells 0 orders; idle = idle_from cells 0 orders }

-- the orders of a book that weren't done in its run
abbrev pub lacks_of : List Order → List Record → Lacks
lacks_of orders records = lacks_by orders (map (fates_in orders) records)

-- every order was done
abbrev pub no_lacks : Lacks
no_lacks = record { refused = 0; idle = 0 }
