-- The link of a run: what a centre sends that orders each cell by itself what the run's record says, and what the
-- controller answers. 3GPP TS 48.049, clause 8.1.3, has the messages; that each cell has a connection is own.
use Rattle.std.specs.Prelude.{ℕ, ◌+◌, List, [], ◌∷◌, ◌++◌, Option, Some, None, Result, Ok, Err}
use Rattle.std.specs.List.{flat_map}
use Rattle.bsc_table.specs.declared.command.Command.{Command}
use Rattle.bsc_table.specs.declared.command.Command.TheVariants as commands
use Rattle.bsc_table.specs.declared.entry.Answer.{Answer}
use Rattle.bsc_table.specs.declared.entry.Answer.TheVariants as answers
use Rattle.bsc_table.specs.declared.entry.Entry.{Entry}
use Rattle.bsc_table.specs.Record.{Record}
use Rattle.cbsp_link.specs.Written.{written}
use Rattle.cbsp_link.specs.declared.fault.LinkFault.{LinkFault}
use Rattle.cbsp_link.specs.declared.message.Answered.{Answered}
use Rattle.cbsp_link.specs.declared.message.Answered.TheVariants as orders
use Rattle.cbsp_link.specs.declared.message.LinkCell.{LinkCell}
use Rattle.cbsp_link.specs.declared.message.LinkCell.TheVariants as cells
use Rattle.cbsp_link.specs.declared.message.LinkCount.{LinkCount}
use Rattle.cbsp_link.specs.declared.message.LinkMessage.{LinkMessage}
use Rattle.cbsp_link.specs.declared.message.LinkMessage.TheVariants as messages
use Rattle.cbsp_wire.specs.declared.message.Cell.{Cell}
use Rattle.gsmtap.specs.Capture.{file_header}
use Rattle.gsmtap.specs.declared.packet.Start.{Start}
use Rattle.link_capture.specs.Connection.{connection_packets}
use Rattle.link_capture.specs.declared.connection.LinkSent.{LinkSent}
use Rattle.link_capture.specs.declared.segment.LinkSide.{LinkSide}
use Rattle.link_capture.specs.declared.segment.LinkSide.TheVariants.{Centre, Controller}
use Rattle.record_orders.specs.Ordered.{category_number}

-- the basic channel (clause 8.2.20)
abbrev pub basic_channel : ℕ
basic_channel = 0

-- the cell, by its LAC and CI
abbrev pub named_cell : Cell → LinkCell
named_cell cell = cells.LacCi cell.lac cell.ci

abbrev pub only : Cell → List LinkCell
only cell = named_cell cell ∷ []

-- what a cell is asked: a status is no order
abbrev pub order_message : Cell → Command → Option LinkMessage
order_message cell (commands.Write id serial replaces category dcs period broadcasts contents) =
    Some (messages.Write id serial replaces (only cell) basic_channel (Some (category_number category)) period
    broadcasts dcs contents)
order_message cell (commands.Kill id serial) = Some (messages.Kill id serial (only cell) (Some basic_channel))
order_message cell (commands.Status id serial) = None

-- how many broadcasts of the older message the cell completed
abbrev pub counted_broadcasts : Cell → (number : ℕ) → List LinkCount
counted_broadcasts cell number = record { cell = named_cell cell; number = number; info = 0 } ∷ []

-- COMPLETE has the cell as one that took the order, also beside completed broadcasts; and FAILURE the cause
abbrev pub done_message : Cell → (id : ℕ) → Answered → List LinkCount → LinkMessage
done_message cell id order completed = messages.Done id order completed (only cell) (Some basic_channel)

abbrev pub failed_message : Cell → (id : ℕ) → Answered → (cause : ℕ) → LinkMessage
failed_message cell id order cause =
    messages.Failed id order (record { cell = named_cell cell; cause = cause } ∷ []) [] [] (Some basic_channel)

-- what it answers to an order: what is said of a status answers none
abbrev pub cell_reply : Cell → (id : ℕ) → Answered → Answer → Option LinkMessage
cell_reply cell id order (answers.Started slot) = Some (done_message cell id order [])
cell_reply cell id order (answers.Replaced slot completed) =
    Some (done_message cell id order (counted_broadcasts cell completed))
cell_reply cell id order (answers.Stopped completed) =
    Some (done_message cell id order (counted_broadcasts cell completed))
cell_reply cell id order (answers.Cause cause) = Some (failed_message cell id order cause)
cell_reply cell id order other = None

abbrev pub answer_message : Cell → Command → Answer → Option LinkMessage
answer_message cell (commands.Write id serial replaces category dcs period broadcasts contents) answer =
    cell_reply cell id (orders.Write serial replaces) answer
answer_message cell (commands.Kill id serial) answer = cell_reply cell id (orders.Kill serial) answer
answer_message cell (commands.Status id serial) answer = None

-- a message is sent in its octets; nothing is of one that has none (`wrong_of` of cbsp_link)
abbrev pub sent_octets : (slot : ℕ) → LinkSide → Result (List ℕ) LinkFault → List LinkSent
sent_octets slot sender (Ok octets) = record { slot = slot; sender = sender; octets = octets } ∷ []
sent_octets slot sender (Err fault) = []

abbrev pub sent_message : (slot : ℕ) → LinkSide → Option LinkMessage → List LinkSent
sent_message slot sender None = []
sent_message slot sender (Some message) = sent_octets slot sender (written message)

-- the order of an entry and its answer are sent at the slot of the answer
abbrev pub sent_of_entry : Cell → Entry → List LinkSent
sent_of_entry cell e =
    sent_message e.slot Centre (order_message cell e.command)
    ++ sent_message e.slot Controller (answer_message cell e.command e.answer)

abbrev pub sent_of_record : Record → List LinkSent
sent_of_record r = flat_map (sent_of_entry r.cell) r.log

-- the connections of cells, numbered from this one on
abbrev pub connections_from : Start → (connection : ℕ) → List Record → List ℕ
connections_from start connection [] = []
connections_from start connection (r ∷ records) =
    connection_packets start connection (sent_of_record r) ++ connections_from start (connection + 1) records

-- the capture of a run's link, where slot 0 begins at this time
abbrev pub run_link : Start → List Record → List ℕ
run_link start records = file_header ++ connections_from start 0 records
