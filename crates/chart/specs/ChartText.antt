-- The chart of a run: one page in HTML that stands alone (own). What is fixed in it are constants of the code; what is
-- said here is what stands between them, and in which order.
use Rattle.std.specs.Prelude.{ℕ, ◌+◌, ◌==◌, ◌&&◌, Bool, true, if◌then◌else◌, Option, Some, None, List}
use Rattle.std.specs.Prelude.{[], ◌∷◌, ◌++◌, filter}
use Rattle.std.specs.Fmt.{decimal}
use Rattle.std.specs.List.{flat_map}
use Rattle.cbsp_wire.specs.declared.message.Cell.{Cell}
use Rattle.bsc_table.specs.Record.{Record, Accepted, accepted_named}
use Rattle.handset.specs.Reception.{ShownMessage}
use Rattle.handset.specs.Tape.{TapeReading}
use Rattle.report.specs.ReportText.{order_name, serial_text}
use Rattle.report.specs.Rows.{cell_rows}
use Rattle.report.specs.Sources.{Orders, order_of}
use Rattle.report.specs.declared.row.Row.{Row}
use Rattle.report.specs.declared.row.Showing.{Showing}
use Rattle.report.specs.declared.row.Showing.TheVariants as shown_status
use Rattle.chart.specs.declared.cell.TheConstants as cells
use Rattle.chart.specs.declared.chart.TheConstants as charts
use Rattle.chart.specs.declared.line.TheConstants as lines
use Rattle.chart.specs.declared.load.TheConstants as loads
use Rattle.chart.specs.declared.facts.Facts.{Facts}
use Rattle.chart.specs.declared.panel.Panel.{Panel}
use Rattle.chart.specs.declared.word.Wording.{Wording}
use Rattle.chart.specs.declared.word.Word.{Word}
use Rattle.chart.specs.declared.word.Word.TheVariants as words
use Rattle.chart.specs.Causes.{cause_text}
use Rattle.chart.specs.Escape.{escaped}
use Rattle.chart.specs.Facts.{facts_of, facts_text, fullest_text}
use Rattle.chart.specs.Identifier.{meaning_text}
use Rattle.chart.specs.Load.{load_line, loads_in}
use Rattle.chart.specs.Panels.{sections_text}
use Rattle.chart.specs.Time.{axis, slot_text, time_in_brackets, time_text}
use Rattle.slot_times.specs.SlotTime.{slot_time}
use Rattle.slot_times.specs.declared.start.Start.{Start}
use Rattle.chart.specs.Words.{word_by}
use Rattle.chart.specs.View.{bar_from, bar_width, is_drawn, stretch_of, width_of}
use Rattle.chart.specs.declared.view.Part.{Part}
use Rattle.chart.specs.declared.view.Stretch.{Stretch}
use Rattle.chart.specs.declared.view.View.{View}
use Rattle.chart.specs.Message.{category_words, drawn_marks, first_mark, marks_of, number_instead, pace_text}
use Rattle.chart.specs.Message.{period_of, text_asked, text_shown}

-- the name of what a row is of: its identifier, and its serial number in hexadecimal
unfoldable pub name_text : Row → List ℕ
name_text row = decimal row.id ++ lines.SPACE.now ++ serial_text row.serial

-- the front of a row's line: the name of the alert that its order is of, and its own
unfoldable pub line_front : Orders → Row → List ℕ
line_front orders row =
    lines.LINE.now ++ escaped (order_name (order_of orders row)) ++ lines.ORDER_END.now ++ name_text row

-- the front of a row's picture, as wide as the slots that are drawn, up to the name in its title and what its
-- identifier means
unfoldable pub picture_size : Stretch → List ℕ
picture_size s = lines.PICTURE.now ++ decimal s.from ++ lines.ORIGIN.now ++ decimal (width_of s)

unfoldable pub picture_front : Wording → Stretch → Row → List ℕ
picture_front w s row = picture_size s ++ lines.TITLE.now ++ name_text row ++ meaning_text w.language row.id

-- a period in slots
unfoldable pub slots_text : Wording → (period : ℕ) → List ℕ
slots_text w period = word_by w words.Every ++ decimal period

abbrev pub every_text : Wording → (period : ℕ) → List ℕ
every_text w period = if period == 1 then word_by w words.EverySlot else slots_text w period

-- from when to when an accepted message stood, and how often it was to be sent
unfoldable pub standing_text : Wording → Row → List ℕ
standing_text w row =
    word_by w words.From ++ slot_text w.start row.start ++ word_by w words.To ++ slot_text w.start row.end
    ++ every_text w (period_of row.demand)

-- after which slot a phone shows it first, with the time at which that slot is over, or that none does
unfoldable pub shown_after : Wording → (slot : ℕ) → List ℕ
shown_after w slot = word_by w words.Shown ++ decimal slot ++ time_in_brackets w.start (slot + 1)

abbrev pub first_text : Wording → (first : Option ℕ) → List ℕ
first_text w None = word_by w words.NotShown
first_text w (Some slot) = shown_after w slot

-- what its title says: these, with the number of its whole broadcasts in all of the run between them
unfoldable pub message_title : Wording → Row → List ℕ
message_title w row =
    standing_text w row ++ word_by w words.Whole ++ decimal row.completed ++ first_text w row.first_shown

-- its bar, from its start to its end, in slots, as far as these are drawn; none where it never started. Its class says
-- how often it is broadcast
unfoldable pub bar_front : Row → List ℕ
bar_front row = lines.BAR.now ++ pace_text row ++ lines.BAR_START.now

unfoldable pub bar : Stretch → Row → List ℕ
bar s row =
    bar_front row ++ decimal (bar_from s row) ++ lines.WIDTH.now ++ decimal (bar_width s row) ++ lines.BAR_END.now

-- what is said of it: its alert's name and its own, its category, how many broadcasts are whole at the slots that are
-- drawn, where that stands in place of marks, that no phone shows it, where none does, and its text
unfoldable pub message_name : Wording → Orders → Row → Option Accepted → List ℕ
message_name w orders row found =
    line_front orders row ++ lines.NAME_END.now ++ category_words w.language found ++ lines.CATEGORY_END.now

abbrev pub number_word : (whole : ℕ) → Word
number_word whole = if whole == 1 then words.Broadcast else words.Broadcasts

unfoldable pub number_text : Wording → (whole : ℕ) → List ℕ
number_text w whole = lines.SMALL.now ++ decimal whole ++ word_by w (number_word whole) ++ lines.SMALL_END.now

abbrev pub number_if : Wording → (number : Option ℕ) → List ℕ
number_if w None = []
number_if w (Some whole) = number_text w whole

unfoldable pub not_shown_text : Wording → List ℕ
not_shown_text w = lines.SMALL.now ++ word_by w words.Unseen ++ lines.SMALL_END.now

abbrev pub unseen_text : Wording → Showing → List ℕ
unseen_text w shown_status.Yes = []
unseen_text w shown_status.No = not_shown_text w
unseen_text w (shown_status.Refused number) = []

unfoldable pub message_front : Wording → Orders → Row → Option Accepted → (number : Option ℕ) → (text : List ℕ)
    → List ℕ
message_front w orders row found number text =
    message_name w orders row found ++ number_if w number ++ unseen_text w row.shown ++ lines.TEXT.now ++ escaped text
    ++ lines.TEXT_END.now

-- the end of its line, with the mark where a phone shows it first
unfoldable pub message_end : Stretch → (first : Option ℕ) → List ℕ
message_end s first = lines.SHOWN_MARK.now ++ first_mark s first ++ lines.LINE_END.now

-- the line of an accepted message: what is said of it, and its picture, a bar with a mark for each whole broadcast, or
-- without marks where their number is said
abbrev pub line_with : Wording → Stretch → Orders → Row → Option Accepted → (text : List ℕ) → (number : Option ℕ)
    → (marks : List ℕ) → List ℕ
line_with w s orders row found text number marks =
    message_front w orders row found number text ++ picture_front w s row ++ message_title w row ++ bar s row
    ++ drawn_marks number marks ++ message_end s row.first_shown

abbrev pub message_line : Wording → Record → Stretch → Orders → Row → Option Accepted → (text : List ℕ) → List ℕ
message_line w r s orders row found text =
    line_with w s orders row found text (number_instead s r.slots r.air found) (marks_of s r.slots r.air found)

-- what the title says of a refused order: when
unfoldable pub refusal_title : Wording → Row → List ℕ
refusal_title w row = word_by w words.RefusedAt ++ slot_text w.start row.start

-- its picture: a mark at the slot of the answer
unfoldable pub refusal_picture : Wording → Stretch → Row → List ℕ
refusal_picture w s row =
    picture_front w s row ++ refusal_title w row ++ lines.REFUSAL.now ++ decimal row.start ++ lines.REFUSAL_END.now

-- what is said of a refused order: its alert's name and its own, and the cause
unfoldable pub refusal_front : Wording → Orders → Row → (number : ℕ) → List ℕ
refusal_front w orders row number =
    line_front orders row ++ lines.CAUSE.now ++ word_by w words.RefusedBecause ++ cause_text w.language number
    ++ lines.CAUSE_END.now

-- the line of a refused order
abbrev pub refusal_line : Wording → Stretch → Orders → Row → (number : ℕ) → List ℕ
refusal_line w s orders row number = refusal_front w orders row number ++ refusal_picture w s row

-- the line of a row. A message that phones show has the text that they show, another one the text that it was to show
abbrev pub line_by : Wording → Record → Stretch → Orders → List ShownMessage → Row → Showing → List ℕ
line_by w r s orders shown row shown_status.Yes =
    message_line w r s orders row (accepted_named row.id row.serial r.log) (text_shown shown row.id row.serial)
line_by w r s orders shown row shown_status.No =
    message_line w r s orders row (accepted_named row.id row.serial r.log)
    (text_asked r.log (accepted_named row.id row.serial r.log))
line_by w r s orders shown row (shown_status.Refused number) = refusal_line w s orders row number

abbrev pub line_of : Wording → Record → Stretch → Orders → List ShownMessage → Row → List ℕ
line_of w r s orders shown row = line_by w r s orders shown row row.shown

-- the rows that are drawn
abbrev pub rows_in : Record → Stretch → List ShownMessage → List Row
rows_in r s shown = filter (is_drawn s) (cell_rows r shown)

-- the loads that are reserved over the slots, as a shape in a picture that is as wide as the slots that are drawn
unfoldable pub load_width : Stretch → List ℕ
load_width s = decimal s.from ++ loads.LOAD_ORIGIN.now ++ decimal (width_of s) ++ loads.LOAD_BOX.now

-- and as high as a full cell, whose load is at its upper edge; the line begins and ends at its bottom
unfoldable pub load_title : Wording → List ℕ
load_title w = loads.LOAD_TITLE.now ++ word_by w words.Load ++ loads.LOAD_PATH.now

unfoldable pub load_front : Wording → Stretch → List ℕ
load_front w s =
    load_width s ++ decimal loads.LOAD_HEIGHT ++ load_title w ++ decimal s.from ++ loads.LOAD_BOX.now
    ++ decimal loads.LOAD_HEIGHT

unfoldable pub load_end : (to : ℕ) → List ℕ
load_end to =
    loads.TO_SLOT.now ++ decimal to ++ loads.TO_LOAD.now ++ decimal loads.LOAD_HEIGHT ++ loads.SHAPE_END.now

unfoldable pub load_shape : Wording → Record → Stretch → List ℕ
load_shape w r s = load_front w s ++ load_line r s ++ load_end s.to

-- the line of the loads under those of the rows
abbrev pub load_picture : Wording → Record → Stretch → List ℕ
load_picture w r s =
    loads.LOAD.now ++ word_by w words.Load ++ loads.LOAD_NAMED.now ++ load_shape w r s ++ loads.LOAD_END.now

-- what the overview has of a cell after its name: its loads, how full it gets, and how many orders it refused
unfoldable pub strip_facts : Wording → Facts → List ℕ
strip_facts w facts =
    cells.STRIP_FACTS.now ++ fullest_text w facts ++ word_by w words.Refused ++ decimal facts.refused
    ++ cells.STRIP_END.now

abbrev pub strip_text : Wording → Record → Stretch → Facts → List ℕ
strip_text w r s facts = load_shape w r s ++ strip_facts w facts

-- what its section has after its name: what counts of it, the rows of its report in their order, each a line, then its
-- loads and the axis
abbrev pub contents_text : Wording → Record → Stretch → Orders → List ShownMessage → Facts → List ℕ
contents_text w r s orders shown facts =
    cells.NAME_END.now ++ facts_text w facts ++ cells.FACTS_END.now
    ++ flat_map (line_of w r s orders shown) (rows_in r s shown) ++ load_picture w r s ++ axis w s ++ cells.CELL_END.now

-- what is drawn of a cell
abbrev pub facts_in : Record → Stretch → List ShownMessage → Facts
facts_in r s shown = facts_of (rows_in r s shown) s.from (loads_in r s)

abbrev pub panel_in : Wording → Record → Stretch → Orders → List ShownMessage → Panel
panel_in w r s orders shown = record {
  cell = r.cell;
  strip = strip_text w r s (facts_in r s shown);
  contents = contents_text w r s orders shown (facts_in r s shown);
}

abbrev pub panel_of : Wording → Option Part → Record → Orders → List ShownMessage → Panel
panel_of w part r orders shown = panel_in w r (stretch_of part r.slots) orders shown

-- the cells that are drawn: the one that is wanted, or all
abbrev pub is_wanted : Option Cell → Cell → Bool
is_wanted None cell = true
is_wanted (Some wanted) cell = (wanted.lac == cell.lac) && (wanted.ci == cell.ci)

abbrev pub panel_if : View → Record → Orders → List ShownMessage → List Panel
panel_if view r orders shown =
    if is_wanted view.cell r.cell then panel_of view.wording view.part r orders shown ∷ [] else []

-- the panels of cells, each with the reading of its blocks
abbrev pub panels_of : View → Orders → List Record → List TapeReading → List Panel
panels_of view orders [] readings = []
panels_of view orders (r ∷ records) [] = []
panels_of view orders (r ∷ records) (reading ∷ readings) =
    panel_if view r orders reading.shown ++ panels_of view orders records readings

-- what is drawn of the cells
abbrev pub sections_of : View → Orders → List Record → List TapeReading → List ℕ
sections_of view orders records readings = sections_text view.wording (panels_of view orders records readings)

-- the head of the page, and what its reader is told first
unfoldable pub head : Wording → List ℕ
head w =
    charts.HEAD.now ++ word_by w words.Code ++ charts.HEAD_LANGUAGE_END.now ++ word_by w words.Title
    ++ charts.HEAD_TITLE_END.now ++ word_by w words.Title ++ charts.HEADING_END.now

unfoldable pub introduction : Wording → List ℕ
introduction w = word_by w words.Introduction

-- the front of the page, which says how long the runs are
abbrev pub slots_word : (slots : ℕ) → Word
slots_word slots = if slots == 1 then words.Slot else words.Slots

unfoldable pub run_text : Wording → (slots : ℕ) → List ℕ
run_text w slots =
    word_by w words.Run ++ decimal slots ++ word_by w (slots_word slots) ++ time_text None slots ++ charts.RUN_END.now

-- when slot 0 begins, where the page has the time of day
unfoldable pub begun_text : Wording → Start → List ℕ
begun_text w start = word_by w words.Begins ++ escaped (slot_time start 0) ++ word_by w words.BeginsEnd

abbrev pub begin_if : Wording → Option Start → List ℕ
begin_if w None = []
begin_if w (Some start) = begun_text w start

-- and which part of them is drawn
unfoldable pub stretch_text : Wording → Stretch → List ℕ
stretch_text w s =
    word_by w words.Part ++ slot_text w.start s.from ++ word_by w words.PartTo ++ slot_text w.start s.to
    ++ charts.PART_END.now

abbrev pub part_text : Wording → Stretch → List ℕ
part_text w s = if s.is_part then stretch_text w s else []

unfoldable pub chart_front : Wording → (slots : ℕ) → Option Part → List ℕ
chart_front w slots part =
    head w ++ run_text w slots ++ begin_if w w.start ++ part_text w (stretch_of part slots) ++ introduction w

-- the chart of records, of the orders that asked their cells, and of what handsets read of their blocks
abbrev pub chart_text : (slots : ℕ) → View → Orders → List Record → List TapeReading → List ℕ
chart_text slots view orders records readings =
    chart_front view.wording slots view.part ++ sections_of view orders records readings ++ charts.FOOT.now

-- the sections of a group of a network are folded under its number; there is nothing where no cell of it is drawn
unfoldable pub group_front : Wording → (group : ℕ) → List ℕ
group_front w group = charts.GROUP.now ++ word_by w words.Group ++ decimal group ++ charts.GROUP_NAME_END.now

abbrev pub folded : Wording → (group : ℕ) → (sections : List ℕ) → List ℕ
folded w group [] = []
folded w group (octet ∷ sections) = group_front w group ++ (octet ∷ sections) ++ charts.GROUP_FOOT.now

-- the part of a group in the chart of its network: the front of the page is the first group's, and the end the last's
abbrev pub front_if_first : Wording → (slots group : ℕ) → Option Part → List ℕ
front_if_first w slots group part = if group == 0 then chart_front w slots part else []

abbrev pub foot_if : (last : Bool) → List ℕ
foot_if last = if last then charts.FOOT.now else []

abbrev pub chart_part : (slots group : ℕ) → (last : Bool) → View → Orders → List Record → List TapeReading → List ℕ
chart_part slots group last view orders records readings =
    front_if_first view.wording slots group view.part
    ++ folded view.wording group (sections_of view orders records readings) ++ foot_if last
