-- The rows of an orders file: what a cell was asked, and what it answered. Own.
use Rattle.std.specs.Prelude.{ℕ, Bool, false, if◌then◌else◌, List, Option, Some, None, filter_map}
use Rattle.std.specs.Prelude.{count_by, option_map, unwrap_or}
use Rattle.cbsp_wire.specs.declared.message.Cell.{Cell}
use Rattle.cbsp_link.specs.declared.message.LinkMessage.{LinkMessage}
use Rattle.cbsp_link.specs.declared.message.LinkMessage.TheVariants as messages
use Rattle.cell_orders.specs.declared.heard.Heard.{Heard}
use Rattle.cell_orders.specs.declared.row.CellAnswer.{CellAnswer}
use Rattle.cell_orders.specs.declared.row.CellOrder.{CellOrder}
use Rattle.cell_orders.specs.declared.row.CellOrder.TheVariants as rows
use Rattle.cell_orders.specs.declared.row.OrderRow.{OrderRow}
use Rattle.cell_orders.specs.Naming.{lists_cell, fails_cell, cell_cause, done_of}
use Rattle.cell_orders.specs.Exchange.{LinkExchange, exchanges}

-- what a message answers for the cell: it takes the order, unless a failure names it
abbrev pub answer_in : Cell → LinkMessage → CellAnswer
answer_in cell (messages.Done id order completed cells channel) =
    record { cause = None; done = done_of completed cell }
answer_in cell (messages.Failed id order failures completed cells channel) =
    record { cause = cell_cause failures cell; done = done_of completed cell }
answer_in cell other = record { cause = None; done = None }

abbrev pub cell_answer : Cell → LinkExchange → Option CellAnswer
cell_answer cell e = option_map (λ h. answer_in cell h.message) e.answer

-- whether a message says that the cell's messages go on after RESET
abbrev pub runs_on : Cell → LinkMessage → Bool
runs_on cell (messages.ResetFailed failures cells) = fails_cell failures cell
runs_on cell other = false

abbrev pub runs_on_by : Cell → Option Heard → Bool
runs_on_by cell None = false
runs_on_by cell (Some h) = runs_on cell h.message

-- the category that counts where none is given: normal
abbrev pub normal : ℕ
normal = 2

-- what an exchange is in a row: nothing if it is a RESET after which the cell's messages go on
abbrev pub order_by : Cell → LinkExchange → LinkMessage → Option CellOrder
order_by cell e (messages.Write id new_serial old_serial cells channel category period broadcasts dcs contents) =
    Some (rows.Write id new_serial old_serial (unwrap_or category normal) period broadcasts dcs contents
    (cell_answer cell e))
order_by cell e (messages.Kill id old_serial cells channel) = Some (rows.Kill id old_serial (cell_answer cell e))
order_by cell e (messages.Reset cells) = if runs_on_by cell e.answer then None else Some rows.Clear
order_by cell e (messages.Restart cells broadcast_type recovery) = Some rows.Clear
order_by cell e (messages.Failure failures broadcast_type) = Some rows.Clear
order_by cell e other = None

-- a row has the slot, the time and the packet of the answer, or of the order if none came
abbrev pub row_with : Heard → CellOrder → OrderRow
row_with h order = record { at = h.slot; time = h.time; packet = h.packet; order = order }

abbrev pub row_of : Cell → LinkExchange → Option OrderRow
row_of cell e = option_map (row_with (unwrap_or e.answer e.order)) (order_by cell e e.order.message)

abbrev pub rows_of : Cell → List Heard → List OrderRow
rows_of cell heard = filter_map (row_of cell) (exchanges cell heard)

-- emergency messages to the cell, which go over the paging channel and are no rows
abbrev pub is_emergency_message : Cell → LinkMessage → Bool
is_emergency_message cell (messages.Emergency id new_serial old_serial cells) = lists_cell cells cell
is_emergency_message cell other = false

abbrev pub is_emergency_to : Cell → Heard → Bool
is_emergency_to cell h = is_emergency_message cell h.message

abbrev pub emergencies_to : Cell → List Heard → ℕ
emergencies_to cell heard = count_by (is_emergency_to cell) heard
