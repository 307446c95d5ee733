-- What is remarked of a book and of its run (own): orders that do nothing, or not in each of their cells, or late;
-- those that are refused, or never shown; equal serial numbers; texts of nothing but spaces, and texts that a few
-- characters have sent in UCS-2; and cells that get nothing. None of these is a fault.
use Rattle.std.specs.Prelude.{ℕ, ◌-◌, ◌==◌, ◌&&◌, ◌||◌, Bool, true, false, if◌then◌else◌, max, nat_lt, Option, Some}
use Rattle.std.specs.Prelude.{None}
use Rattle.std.specs.Prelude.{is_some, List, [], ◌∷◌, ◌++◌, count_by, filter, find, length, map, slice_index_or, take}
use Rattle.std.specs.List.{flat_map, list_all, list_any, range_with_len, slice_get}
use Rattle.std.specs.Str.{chars}
use Rattle.cbsp_wire.specs.declared.cause.TheConstants.{CELL_BROADCAST_NOT_OPERATIONAL}
use Rattle.cbsp_wire.specs.declared.message.Cell.{Cell}
use Rattle.alert_book.specs.declared.book.order.Alert.{Alert}
use Rattle.alert_book.specs.declared.book.order.Order.{Order}
use Rattle.alert_book.specs.declared.book.order.Sending.{Sending}
use Rattle.alert_book.specs.Book.{sending_of}
use Rattle.alert_book.specs.Row.{is_write}
use Rattle.book_texts.specs.Cost.{first_forcing, forcing_count, pages_needed, pages_without_forcing, place_of_forcing}
use Rattle.bsc_table.specs.declared.entry.Entry.{Entry}
use Rattle.bsc_table.specs.Record.{Record, start_of}
use Rattle.book_remarks.specs.declared.mark.Mark.{Mark}
use Rattle.book_remarks.specs.declared.mark.Mark.TheVariants as marks
use Rattle.book_remarks.specs.declared.says.CellMark.{CellMark}
use Rattle.book_remarks.specs.declared.says.Says.{Says}
use Rattle.book_remarks.specs.declared.says.Says.TheVariants as says
use Rattle.book_remarks.specs.declared.remarks.Remark.{Remark}
use Rattle.book_remarks.specs.declared.remarks.Remark.TheVariants as remarks
use Rattle.book_remarks.specs.Answers.{Column, column_of}

-- what became of the order of this place in a cell
abbrev pub mark_in : (place : ℕ) → Column → CellMark
mark_in place column = record { cell = column.cell; mark = slice_index_or column.marks place marks.Elsewhere }

-- The cells that weren't asked.

-- an order asked the cell
abbrev pub is_answer : Mark → Bool
is_answer marks.Elsewhere = false
is_answer marks.LeftOut = false
is_answer (marks.Done slot unseen) = true
is_answer (marks.Refused cause) = true

abbrev pub is_answered : CellMark → Bool
is_answered m = is_answer m.mark

-- it named the cell, and didn't ask it
abbrev pub is_omission : Mark → Bool
is_omission marks.Elsewhere = false
is_omission marks.LeftOut = true
is_omission (marks.Done slot unseen) = false
is_omission (marks.Refused cause) = false

abbrev pub is_left_out : CellMark → Bool
is_left_out m = is_omission m.mark

abbrev pub cells_left_out : List CellMark → List Cell
cells_left_out in_cells = map (λ m. m.cell) (filter is_left_out in_cells)

-- some are left out
abbrev pub leaving : List Cell → List Says
leaving [] = []
leaving (cell ∷ cells) = says.LeavesOut (cell ∷ cells) ∷ []

-- an order that asked no cell orders nothing; else it leaves out those that it named and didn't ask
abbrev pub unasked_says : List CellMark → List Says
unasked_says in_cells =
    if list_any is_answered in_cells then leaving (cells_left_out in_cells) else says.OrdersNothing ∷ []

-- Orders that are done late: in cells that did something else at a later slot before.

abbrev pub slot_done : Mark → ℕ
slot_done marks.Elsewhere = 0
slot_done marks.LeftOut = 0
slot_done (marks.Done slot unseen) = slot
slot_done (marks.Refused cause) = 0

-- the latest slot at which a cell did what was ordered
abbrev pub latest : List CellMark → ℕ
latest [] = 0
latest (m ∷ more) = max (slot_done m.mark) (latest more)

abbrev pub late_says : (at : ℕ) → List CellMark → List Says
late_says at in_cells = if nat_lt at (latest in_cells) then says.DoneAt (latest in_cells) ∷ [] else []

-- Orders that cells refuse.

abbrev pub is_refusal : (cause : ℕ) → Mark → Bool
is_refusal cause marks.Elsewhere = false
is_refusal cause marks.LeftOut = false
is_refusal cause (marks.Done slot unseen) = false
is_refusal cause (marks.Refused of) = of == cause

abbrev pub is_refused : (cause : ℕ) → CellMark → Bool
is_refused cause m = is_refusal cause m.mark

-- all slots of the run are over: a cell refuses no order with that cause before
abbrev pub past_says : List CellMark → List Says
past_says in_cells = if list_any (is_refused CELL_BROADCAST_NOT_OPERATIONAL) in_cells then says.PastTheEnd ∷ [] else []

-- any other cause is said once, at the first cell that has it, with the number of cells
abbrev pub new_cause_says : (before in_cells : List CellMark) → (cause : ℕ) → List Says
new_cause_says before in_cells cause =
    if cause == CELL_BROADCAST_NOT_OPERATIONAL then []
    else if list_any (is_refused cause) before then []
    else says.Refused (count_by (is_refused cause) in_cells) cause ∷ []

abbrev pub cause_says : (before in_cells : List CellMark) → Mark → List Says
cause_says before in_cells marks.Elsewhere = []
cause_says before in_cells marks.LeftOut = []
cause_says before in_cells (marks.Done slot unseen) = []
cause_says before in_cells (marks.Refused cause) = new_cause_says before in_cells cause

abbrev pub cause_says_of : (before in_cells : List CellMark) → Option CellMark → List Says
cause_says_of before in_cells None = []
cause_says_of before in_cells (Some m) = cause_says before in_cells m.mark

abbrev pub refused_at : List CellMark → (place : ℕ) → List Says
refused_at in_cells place = cause_says_of (take place in_cells) in_cells (slice_get in_cells place)

abbrev pub refused_before : List CellMark → (place : ℕ) → List Says
refused_before in_cells place = flat_map (refused_at in_cells) (range_with_len 0 place)

abbrev pub refused_says : List CellMark → List Says
refused_says in_cells = refused_before in_cells (length in_cells)

-- Orders that cells accept, and of which nobody ever sees anything.

abbrev pub is_in_vain : Mark → Bool
is_in_vain marks.Elsewhere = false
is_in_vain marks.LeftOut = false
is_in_vain (marks.Done slot unseen) = unseen
is_in_vain (marks.Refused cause) = false

abbrev pub is_unshown : CellMark → Bool
is_unshown m = is_in_vain m.mark

abbrev pub unshown_count : List CellMark → ℕ
unshown_count in_cells = count_by is_unshown in_cells

-- in how many cells its message is never shown
abbrev pub unshown_says : List CellMark → List Says
unshown_says in_cells = if unshown_count in_cells == 0 then [] else says.NeverShown (unshown_count in_cells) ∷ []

-- Alerts of one identifier and serial number.

abbrev pub is_same : Alert → Alert → Bool
is_same a b = (a.id == b.id) && ((a.scope == b.scope) && (a.code == b.code))

abbrev pub is_write_with : Alert → Order → Bool
is_write_with alert order = is_write order && is_same alert order.alert

abbrev pub same_as : Option Order → List Says
same_as None = []
same_as (Some first) = says.SameAs first.row ∷ []

-- a `write` whose alert an earlier row has written by another name: the first of them
abbrev pub same_says : (earlier : List Order) → Order → List Says
same_says earlier order = if is_write order then same_as (find (is_write_with order.alert) earlier) else []

-- Texts of nothing but spaces and line feeds.

abbrev pub is_blank : ℕ → Bool
is_blank octet = (octet == 32) || (octet == 10)

abbrev pub blank_says : (text : List ℕ) → List Says
blank_says text = if list_all is_blank text then says.OnlySpaces ∷ [] else []

-- Texts that a few characters have sent in UCS-2, of which a page holds less than half as many.

-- GSM 7-bit has more than half of a text's characters, and those that it has take fewer pages than the text
abbrev pub is_dear : (text : List ℕ) → Bool
is_dear text =
    nat_lt (forcing_count text) (length text - forcing_count text)
    && nat_lt (pages_without_forcing text) (pages_needed text)

-- the first of these characters is named
abbrev pub dear_says : (text : List ℕ) → (character place : Option ℕ) → List Says
dear_says text None place = []
dear_says text (Some character) None = []
dear_says text (Some character) (Some place) =
    if is_dear text then says.ForcesUcs2 character place (pages_needed text) (pages_without_forcing text) ∷ [] else []

abbrev pub coding_says : (text : List ℕ) → List Says
coding_says text = dear_says text (first_forcing text) (place_of_forcing text)

-- what is said of an order's text
abbrev pub text_says : Option Sending → List Says
text_says None = []
text_says (Some sending) = blank_says sending.text ++ coding_says (chars sending.text)

-- all that is said of an order, by the orders before it and by what became of it in the cells of the run
abbrev pub order_says : (earlier : List Order) → Order → List CellMark → List Says
order_says earlier order in_cells =
    (((((unasked_says in_cells ++ late_says order.at in_cells) ++ refused_says in_cells) ++ past_says in_cells)
    ++ unshown_says in_cells) ++ same_says earlier order) ++ text_says (sending_of order.action)

abbrev pub remark_of : Order → Says → Remark
remark_of order said = remarks.OfOrder order.row order.name said

abbrev pub order_remarks : (earlier : List Order) → Order → List CellMark → List Remark
order_remarks earlier order in_cells = map (remark_of order) (order_says earlier order in_cells)

-- what is remarked of the order of a place
abbrev pub remarks_of_place : List Order → List Column → (place : ℕ) → Option Order → List Remark
remarks_of_place orders columns place None = []
remarks_of_place orders columns place (Some order) =
    order_remarks (take place orders) order (map (mark_in place) columns)

abbrev pub remarks_at : List Order → List Column → (place : ℕ) → List Remark
remarks_at orders columns place = remarks_of_place orders columns place (slice_get orders place)

abbrev pub remarks_before : List Order → List Column → (place : ℕ) → List Remark
remarks_before orders columns place = flat_map (remarks_at orders columns) (range_with_len 0 place)

-- Cells of which no entry starts a message.

abbrev pub starts : Entry → Bool
starts e = is_some (start_of e.answer)

abbrev pub cell_remarks : Record → List Remark
cell_remarks r = if list_any starts r.log then [] else remarks.NothingIn r.cell ∷ []

-- what is remarked of orders and of the records of their run: row by row, and then cell by cell
abbrev pub remarks_in : List Order → List Record → List Remark
remarks_in orders records =
    remarks_before orders (map (column_of orders) records) (length orders) ++ flat_map cell_remarks records
