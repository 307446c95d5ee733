-- Which orders of a book asked a cell of its run, and so which order each entry of the cell's log is of (own).
--
-- A cell's log has the entries of what the cell was asked, in the order of the rows, each row at most once. A `write`
-- asks each cell that it names; an `update` or a `stop` asks those in which a version of its alert is live, and so none
-- that refused the alert's `write`. So a row's entry, if it has one, is the next of the log, and is known by its
-- command: a write of the row's identifier and serial number, or a kill of some version of the row's alert. A row that
-- names the cell, and whose entry isn't the next, didn't ask it.
use Rattle.std.specs.Prelude.{ℕ, ◌+◌, ◌*◌, ◌/◌, ◌==◌, ◌&&◌, ◌||◌, Bool, true, false, if◌then◌else◌, Option, Some}
use Rattle.std.specs.Prelude.{None, List, [], ◌∷◌, ◌++◌, map}
use Rattle.std.specs.List.{list_any, slice_get}
use Rattle.cbsp_wire.specs.declared.message.Cell.{Cell}
use Rattle.cbsp_wire.specs.CellLists.{contains}
use Rattle.alert_book.specs.declared.book.order.Action.{Action}
use Rattle.alert_book.specs.declared.book.order.Action.TheVariants as action
use Rattle.alert_book.specs.declared.book.order.Alert.{Alert}
use Rattle.alert_book.specs.declared.book.order.Order.{Order}
use Rattle.alert_book.specs.Row.{is_write}
use Rattle.alert_book.specs.Session.{serial_of}
use Rattle.bsc_table.specs.declared.command.Command.{Command}
use Rattle.bsc_table.specs.declared.command.Command.TheVariants as commands
use Rattle.bsc_table.specs.declared.entry.Answer.{Answer}
use Rattle.bsc_table.specs.declared.entry.Answer.TheVariants as answers
use Rattle.bsc_table.specs.declared.entry.Entry.{Entry}
use Rattle.bsc_table.specs.Record.{Record}
use Rattle.report.specs.Sources.{Asked, Named, Orders}

-- the cells that an order names
abbrev pub cells_named : Action → List Cell
cells_named (action.Write sending) = sending.cells
cells_named (action.Update update sending) = sending.cells
cells_named (action.Stop cells) = cells

abbrev pub names : Order → Cell → Bool
names order cell = contains (cells_named order.action) cell

-- a command writes this version of an alert
abbrev pub writes_version : Alert → (version : ℕ) → Command → Bool
writes_version alert version (commands.Write id serial replaces category dcs period broadcasts contents) =
    (id == alert.id) && (serial == serial_of alert version)
writes_version alert version (commands.Kill id serial) = false
writes_version alert version (commands.Status id serial) = false

-- a command stops some version of an alert: its serial number has the alert's scope and code, whatever the update
-- number in its last four bits is
abbrev pub kills_alert : Alert → Command → Bool
kills_alert alert (commands.Write id serial replaces category dcs period broadcasts contents) = false
kills_alert alert (commands.Kill id serial) =
    (id == alert.id) && (serial / 16 == alert.scope * 1024 + alert.code)
kills_alert alert (commands.Status id serial) = false

-- a command is one that an order has cells carry out
abbrev pub is_ordered : Alert → Action → Command → Bool
is_ordered alert (action.Write sending) command = writes_version alert 0 command
is_ordered alert (action.Update update sending) command = writes_version alert update command
is_ordered alert (action.Stop cells) command = kills_alert alert command

-- the next entry of a log, if there is one, is an order's
abbrev pub is_entry_of : Order → (next : Option Entry) → Bool
is_entry_of order None = false
is_entry_of order (Some e) = is_ordered order.alert order.action e.command

-- an order may ask a cell that has accepted the first versions of these alerts
abbrev pub may_ask : (accepted : List ℕ) → Order → Bool
may_ask accepted order = is_write order || list_any (λ number. number == order.number) accepted

-- an order asked a cell whose log goes on with this entry
abbrev pub asks : Order → Cell → (accepted : List ℕ) → (next : Option Entry) → Bool
asks order cell accepted next = names order cell && (may_ask accepted order && is_entry_of order next)

-- the cell answered the entry by doing what it orders: else it has a cause
abbrev pub is_taken_by : Answer → Bool
is_taken_by (answers.Started start) = true
is_taken_by (answers.Replaced start completed) = true
is_taken_by (answers.Stopped completed) = true
is_taken_by (answers.Told completed state) = true
is_taken_by answers.Unknown = true
is_taken_by (answers.Cause cause) = false
is_taken_by answers.Refused = true

abbrev pub is_taken : Option Entry → Bool
is_taken None = false
is_taken (Some e) = is_taken_by e.answer

-- the alerts of which a cell accepted the first version, after one more order, which asked it by this entry
abbrev pub taken_after : (accepted : List ℕ) → Order → (next : Option Entry) → List ℕ
taken_after accepted order next =
    if is_write order && is_taken next then accepted ++ order.number ∷ [] else accepted

-- the places of those orders that asked a cell, of orders whose first is at this place, where so many asked before
abbrev pub places_from : Cell → (log : List Entry) → (place asked : ℕ) → (accepted : List ℕ) → List Order → List ℕ
places_from cell log place asked accepted [] = []
places_from cell log place asked accepted (order ∷ orders) =
    if asks order cell accepted (slice_get log asked)
    then place ∷ places_from cell log (place + 1) (asked + 1) (taken_after accepted order (slice_get log asked)) orders
    else places_from cell log (place + 1) asked accepted orders

-- the k-th order that asked a cell is the order of the k-th entry of its log
abbrev pub asked_in : List Order → Record → Asked
asked_in orders r = record { cell = r.cell; places = places_from r.cell r.log 0 0 [] orders }

abbrev pub named : Order → Named
named order = record { row = order.row; name = order.name }

-- the orders of a book, and which of them asked each cell of its run
abbrev pub orders_of_run : List Order → List Record → Orders
orders_of_run orders records = record { named = map named orders; asked = map (asked_in orders) records }
