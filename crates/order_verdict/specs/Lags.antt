-- How late the pages of messages come: what a delay is chosen by. Own.
use Rattle.std.specs.Prelude.{ℕ, ◌-◌, nat_le, if◌then◌else◌, Option, Some, None, List, [], ◌++◌, codes, length}
use Rattle.std.specs.Prelude.{option_map}
use Rattle.std.specs.Fmt.{decimal}
use Rattle.std.specs.List.{flat_map, slice_get}
use Rattle.cell_orders.specs.declared.row.OrderRow.{OrderRow}
use Rattle.verification.specs.RowText.{serial_text}
use Rattle.verification.specs.Shift.{slot_of_first}
use Rattle.verification.specs.declared.judged.JudgedPage.{JudgedPage}
use Rattle.order_verdict.specs.Air.{AirOctets, pages_on_air}
use Rattle.order_verdict.specs.Judged.{own_pages_in}
use Rattle.order_verdict.specs.Ordered.{OrderedMessage, ordered_in}

-- the slots from one slot to another, with a sign if that comes before it
abbrev pub slots_between : (from to : ℕ) → List ℕ
slots_between from to = if nat_le from to then decimal (to - from) else codes "-" ++ decimal (from - to)

-- those from the slot of a row to the slot of a page, or nothing if there is no such row or page
abbrev pub lag_text : (from page : Option ℕ) → List ℕ
lag_text None page = []
lag_text (Some from) None = []
lag_text (Some from) (Some page) = slots_between from page

-- a slot, or nothing if there is none
abbrev pub stop_text : Option ℕ → List ℕ
stop_text None = []
stop_text (Some slot) = decimal slot

-- the slot of the last of some pages, if there is one
abbrev pub slot_of_last : List JudgedPage → Option ℕ
slot_of_last pages = option_map (λ (page : JudgedPage). page.slot) (slice_get pages (length pages - 1))

-- the columns that say which message it is: its row, its name, and the slot of its order
abbrev pub message_text : OrderedMessage → List ℕ
message_text m =
    decimal m.row ++ (codes "," ++ (decimal m.early.id ++ (codes "," ++ (serial_text m.early.serial ++ (codes ","
    ++ decimal m.early.start)))))

-- the line of a message of which these pages were sent: after these columns the slots from its order to its first page;
-- the slot of what ended it, and the slots from there to its last page
abbrev pub lag_line : OrderedMessage → List JudgedPage → List ℕ
lag_line m pages =
    message_text m ++ (codes "," ++ (lag_text (Some m.early.start) (slot_of_first pages) ++ (codes ","
    ++ (stop_text m.ended ++ (codes "," ++ (lag_text m.ended (slot_of_last pages) ++ codes "\n"))))))

abbrev pub lags_header : List ℕ
lags_header = codes "row,id,serial,at,first,stop,last\n"

-- the table of messages of which these pages were sent. It goes by the slots of the rows, and by no delay
abbrev pub lag_lines : List OrderedMessage → List AirOctets → List ℕ
lag_lines messages air = flat_map (λ (m : OrderedMessage). lag_line m (own_pages_in m air)) messages

abbrev pub lags_text : List OrderRow → (blocks : List (List ℕ)) → List ℕ
lags_text rows blocks = lags_header ++ lag_lines (ordered_in 0 rows) (pages_on_air blocks)
