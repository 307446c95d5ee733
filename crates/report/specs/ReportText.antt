-- The text of a report, as CSV (own).
use Rattle.std.specs.Prelude.{ℕ, ◌+◌, ◌/◌, ◌%◌, Bool, true, false, Option, Some, None, List, [], ◌∷◌, ◌++◌, codes}
use Rattle.std.specs.Fmt.{decimal}
use Rattle.std.specs.List.{flat_map}
use Rattle.csv.specs.Writing.{default_writer, row_text}
use Rattle.hex.specs.Hex.{encode_lower}
use Rattle.report.specs.Cause.{cause_words}
use Rattle.report.specs.Sources.{Named, Orders, order_of}
use Rattle.report.specs.declared.row.Columns.{Columns}
use Rattle.report.specs.declared.row.Columns.TheVariants as columns
use Rattle.report.specs.declared.row.Demand.{Demand}
use Rattle.report.specs.declared.row.Layout.{Layout}
use Rattle.report.specs.declared.row.Row.{Row}
use Rattle.report.specs.declared.row.Showing.{Showing}
use Rattle.report.specs.declared.row.Showing.TheVariants as shown_status
use Rattle.slot_times.specs.SlotTime.{slot_time}
use Rattle.slot_times.specs.declared.start.Start.{Start}

-- a line of fields, as CSV quotes them, with LF at its end
abbrev pub line : List (List ℕ) → List ℕ
line fields = row_text default_writer fields

-- the first line has the names of the columns
abbrev pub plain_names : List (List ℕ)
plain_names =
    codes "lac" ∷ codes "ci" ∷ codes "id" ∷ codes "serial" ∷ codes "start" ∷ codes "end" ∷ codes "completed"
    ∷ codes "shown" ∷ []

abbrev pub header_line : List ℕ
header_line = line plain_names

-- four lower hexadecimal digits
abbrev pub serial_text : ℕ → List ℕ
serial_text serial = encode_lower ((serial / 256) ∷ (serial % 256) ∷ [])

-- a cause has two lower hexadecimal digits
abbrev pub showing_text : Showing → List ℕ
showing_text shown_status.Yes = codes "yes"
showing_text shown_status.No = codes "no"
showing_text (shown_status.Refused cause) = codes "refused " ++ encode_lower (cause ∷ [])

-- a row's line: the serial number is hexadecimal, the other numbers are decimal
abbrev pub plain_fields : Row → List (List ℕ)
plain_fields r =
    decimal r.lac ∷ decimal r.ci ∷ decimal r.id ∷ serial_text r.serial ∷ decimal r.start ∷ decimal r.end
    ∷ decimal r.completed ∷ showing_text r.shown ∷ []

abbrev pub row_line : Row → List ℕ
row_line r = line (plain_fields r)

-- the text of a report of these rows
abbrev pub report_text : List Row → List ℕ
report_text rows = header_line ++ flat_map row_line rows

-- the first line, or none: the report of a part that isn't the first has none, so that parts can be joined
abbrev pub heading : Bool → List ℕ
heading true = header_line
heading false = []

abbrev pub part_text : (headed : Bool) → List Row → List ℕ
part_text headed rows = heading headed ++ flat_map row_line rows

-- a number is decimal; there is no octet where there is no number
abbrev pub number_or_none : Option ℕ → List ℕ
number_or_none None = []
number_or_none (Some n) = decimal n

-- what a write asks of the channel: its pages, its period and its share; nothing of a kill
abbrev pub demand_pages : Option Demand → Option ℕ
demand_pages None = None
demand_pages (Some d) = Some d.pages

abbrev pub demand_period : Option Demand → Option ℕ
demand_period None = None
demand_period (Some d) = Some d.period

abbrev pub demand_share : Option Demand → Option ℕ
demand_share None = None
demand_share (Some d) = Some d.share

-- the cause of a refusal in words; nothing where the order was accepted
abbrev pub words_of_showing : Showing → List ℕ
words_of_showing shown_status.Yes = []
words_of_showing shown_status.No = []
words_of_showing (shown_status.Refused cause) = cause_words cause

-- the row of the book that gave a row's order, and the name of its alert; nothing where the order isn't known
abbrev pub order_row : Option Named → List ℕ
order_row None = []
order_row (Some named) = decimal named.row

abbrev pub order_name : Option Named → List ℕ
order_name None = []
order_name (Some named) = named.name

-- the names of all columns, and the fields of a row: the order's are the first two, and after them come the eight of a
-- plain report
abbrev pub full_names : List (List ℕ)
full_names =
    codes "row" ∷ codes "name" ∷ codes "lac" ∷ codes "ci" ∷ codes "id" ∷ codes "serial" ∷ codes "start" ∷ codes "end"
    ∷ codes "completed" ∷ codes "shown" ∷ codes "first_shown" ∷ codes "pages" ∷ codes "period" ∷ codes "share"
    ∷ codes "cause" ∷ []

abbrev pub full_fields : Orders → Row → List (List ℕ)
full_fields orders r =
    order_row (order_of orders r) ∷ order_name (order_of orders r) ∷ decimal r.lac ∷ decimal r.ci ∷ decimal r.id
    ∷ serial_text r.serial ∷ decimal r.start ∷ decimal r.end
    ∷ decimal r.completed ∷ showing_text r.shown ∷ number_or_none r.first_shown
    ∷ number_or_none (demand_pages r.demand) ∷ number_or_none (demand_period r.demand)
    ∷ number_or_none (demand_share r.demand) ∷ words_of_showing r.shown ∷ []

abbrev pub full_header_line : List ℕ
full_header_line = line full_names

abbrev pub full_line : Orders → Row → List ℕ
full_line orders r = line (full_fields orders r)

-- the text of a part of a full report, headed or not
abbrev pub full_heading : Bool → List ℕ
full_heading true = full_header_line
full_heading false = []

abbrev pub full_part_text : (headed : Bool) → Orders → List Row → List ℕ
full_part_text headed orders rows = full_heading headed ++ flat_map (full_line orders) rows

-- where slot 0 has a time on the clock, the columns behind all others have the times at which the slots of the start
-- and the end begin. A phone shows a message after the last block of the slot of `first_shown`, which is when the next
-- slot begins; there is no octet where it shows none
abbrev pub shown_time : Start → Option ℕ → List ℕ
shown_time start None = []
shown_time start (Some slot) = slot_time start (slot + 1)

abbrev pub time_names : Columns → List (List ℕ)
time_names columns.Plain = codes "start_time" ∷ codes "end_time" ∷ []
time_names columns.Full = codes "start_time" ∷ codes "end_time" ∷ codes "first_shown_time" ∷ []

abbrev pub time_fields : Columns → Start → Row → List (List ℕ)
time_fields columns.Plain start r = slot_time start r.start ∷ slot_time start r.end ∷ []
time_fields columns.Full start r =
    slot_time start r.start ∷ slot_time start r.end ∷ shown_time start r.first_shown ∷ []

-- the names of the columns without times, and the fields of a row
abbrev pub untimed_names : Columns → List (List ℕ)
untimed_names columns.Plain = plain_names
untimed_names columns.Full = full_names

abbrev pub untimed_fields : Columns → Orders → Row → List (List ℕ)
untimed_fields columns.Plain orders r = plain_fields r
untimed_fields columns.Full orders r = full_fields orders r

abbrev pub timed_header_line : Columns → List ℕ
timed_header_line wanted = line (untimed_names wanted ++ time_names wanted)

abbrev pub timed_line : Columns → Start → Orders → Row → List ℕ
timed_line wanted start orders r = line (untimed_fields wanted orders r ++ time_fields wanted start r)

-- the text of a part of a report with times, headed or not
abbrev pub timed_heading : Columns → Bool → List ℕ
timed_heading wanted true = timed_header_line wanted
timed_heading wanted false = []

abbrev pub timed_part_text : Columns → Start → (headed : Bool) → Orders → List Row → List ℕ
timed_part_text wanted start headed orders rows =
    timed_heading wanted headed ++ flat_map (timed_line wanted start orders) rows

-- the text of a part of a report without times
abbrev pub untimed_part_text : Columns → (headed : Bool) → Orders → List Row → List ℕ
untimed_part_text columns.Plain headed orders rows = part_text headed rows
untimed_part_text columns.Full headed orders rows = full_part_text headed orders rows

-- the text of a part that is laid out so, whose rows are of these orders; plain columns say nothing of the orders
abbrev pub text_by : Columns → Option Start → (headed : Bool) → Orders → List Row → List ℕ
text_by wanted None headed orders rows = untimed_part_text wanted headed orders rows
text_by wanted (Some start) headed orders rows = timed_part_text wanted start headed orders rows

abbrev pub text_with : Layout → (headed : Bool) → Orders → List Row → List ℕ
text_with layout headed orders rows = text_by layout.columns layout.start headed orders rows
