-- What became of each order of a book in a cell of its run (own).
--
-- An order's entry in the cell's log, if it has one, is the next of the log when its turn comes. A row that names the
-- cell, and whose entry isn't the next, was left out there.
use Rattle.std.specs.Prelude.{ℕ, ◌+◌, ◌&&◌, Bool, true, false, if◌then◌else◌, Option, Some, None, List, [], ◌∷◌}
use Rattle.std.specs.Prelude.{◌++◌, drop, is_some, length, not}
use Rattle.std.specs.List.{list_any, slice_get}
use Rattle.cbsp_wire.specs.declared.message.Cell.{Cell}
use Rattle.scheduler.specs.Air.{Air}
use Rattle.scheduler.specs.Pages.{airs_page}
use Rattle.alert_book.specs.declared.book.order.Order.{Order}
use Rattle.alert_book.specs.Row.{is_write}
use Rattle.asked_orders.specs.Asked.{asks, is_entry_of, may_ask, names}
use Rattle.bsc_table.specs.declared.command.Command.{Command}
use Rattle.bsc_table.specs.declared.command.Command.TheVariants as commands
use Rattle.bsc_table.specs.declared.entry.Answer.{Answer}
use Rattle.bsc_table.specs.declared.entry.Answer.TheVariants as answers
use Rattle.bsc_table.specs.declared.entry.Entry.{Entry}
use Rattle.bsc_table.specs.Record.{Record, start_of}
use Rattle.book_remarks.specs.declared.mark.Mark.{Mark}
use Rattle.book_remarks.specs.declared.mark.Mark.TheVariants as marks

-- some slot from this one on sends this page of the entry at a place of the log
abbrev pub sends_page : Air → (slot place page : ℕ) → Bool
sends_page air slot place page = list_any (airs_page place page) (drop slot air)

-- a broadcast's last page comes last: where none from this slot on comes, no broadcast of a write is whole
abbrev pub is_never_whole : Air → (slot place : ℕ) → Command → Bool
is_never_whole air slot place (commands.Write id serial replaces category dcs period broadcasts contents) =
    not (sends_page air slot place (length contents))
is_never_whole air slot place (commands.Kill id serial) = false
is_never_whole air slot place (commands.Status id serial) = false

-- an entry started a message, of which no phone shows anything
abbrev pub is_unseen : Air → (place : ℕ) → Entry → Bool
is_unseen air place e = is_some (start_of e.answer) && is_never_whole air e.slot place e.command

-- what became of an order that asked, by its entry: a cell answers each command of a book by doing it or with a cause
abbrev pub mark_by : (slot : ℕ) → (unseen : Bool) → Answer → Mark
mark_by slot unseen (answers.Started start) = marks.Done slot unseen
mark_by slot unseen (answers.Replaced start completed) = marks.Done slot unseen
mark_by slot unseen (answers.Stopped completed) = marks.Done slot unseen
mark_by slot unseen (answers.Told completed state) = marks.Done slot unseen
mark_by slot unseen answers.Unknown = marks.Done slot unseen
mark_by slot unseen (answers.Cause cause) = marks.Refused cause
mark_by slot unseen answers.Refused = marks.Done slot unseen

abbrev pub mark_of_entry : Air → (place : ℕ) → Option Entry → Mark
mark_of_entry air place None = marks.LeftOut
mark_of_entry air place (Some e) = mark_by e.slot (is_unseen air place e) e.answer

abbrev pub mark_of : Order → Cell → (accepted : List ℕ) → Air → (place : ℕ) → (next : Option Entry) → Mark
mark_of order cell accepted air place next =
    if names order cell then (if may_ask accepted order && is_entry_of order next then mark_of_entry air place next
    else marks.LeftOut)
    else marks.Elsewhere

-- how many entries of a log an order has
abbrev pub one_if : Bool → ℕ
one_if asked = if asked then 1 else 0

abbrev pub is_done : Mark → Bool
is_done marks.Elsewhere = false
is_done marks.LeftOut = false
is_done (marks.Done slot unseen) = true
is_done (marks.Refused cause) = false

-- the alerts of which a cell accepted the first version, after one more order of which this became there
abbrev pub accepted_after : (accepted : List ℕ) → Order → Mark → List ℕ
accepted_after accepted order mark =
    if is_write order && is_done mark then accepted ++ order.number ∷ [] else accepted

-- what became of orders in a cell, one after the other, where the entry of the first that asked is at this place of the
-- log
abbrev pub marks_from : Cell → Air → (log : List Entry) → (place : ℕ) → (accepted : List ℕ) → List Order → List Mark
marks_from cell air log place accepted [] = []
marks_from cell air log place accepted (order ∷ orders) =
    mark_of order cell accepted air place (slice_get log place)
    ∷ marks_from cell air log (place + one_if (asks order cell accepted (slice_get log place)))
    (accepted_after accepted order (mark_of order cell accepted air place (slice_get log place))) orders

-- a cell of the run, and what became there of each order of the book
pub record Column : Type 0 where
  pub cell : Cell
  pub marks : List Mark

abbrev pub column_of : List Order → Record → Column
column_of orders r = record { cell = r.cell; marks = marks_from r.cell r.air r.log 0 [] orders }
