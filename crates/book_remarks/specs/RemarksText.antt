-- The text of remarks, as CSV: a line for each (own).
use Rattle.std.specs.Prelude.{ℕ, ◌+◌, ◌==◌, if◌then◌else◌, Option, Some, None, List, [], ◌∷◌, ◌++◌, codes, encode_utf8}
use Rattle.std.specs.Fmt.{decimal}
use Rattle.std.specs.List.{flat_map}
use Rattle.csv.specs.Writing.{default_writer, row_text}
use Rattle.cbsp_wire.specs.declared.message.Cell.{Cell}
use Rattle.bsc_table.specs.Record.{Record}
use Rattle.chart.specs.declared.fullest.Fullest.{Fullest}
use Rattle.chart.specs.Facts.{fullest_in}
use Rattle.report.specs.Cause.{cause_words}
use Rattle.slot_times.specs.SlotTime.{slot_time}
use Rattle.slot_times.specs.declared.start.Start.{Start}
use Rattle.book_remarks.specs.declared.says.Says.{Says}
use Rattle.book_remarks.specs.declared.says.Says.TheVariants as says
use Rattle.book_remarks.specs.declared.remarks.Remark.{Remark}
use Rattle.book_remarks.specs.declared.remarks.Remark.TheVariants as remarks

-- a line of fields, as CSV quotes them, with LF at its end
abbrev pub line : List (List ℕ) → List ℕ
line fields = row_text default_writer fields

-- where slot 0 has a time on the clock, a last column has the time at which the slot begins that a line speaks of;
-- there is no octet where it speaks of none
abbrev pub time_name : Option Start → List (List ℕ)
time_name None = []
time_name (Some start) = codes "time" ∷ []

abbrev pub time_text : Start → (slot : Option ℕ) → List ℕ
time_text start None = []
time_text start (Some slot) = slot_time start slot

abbrev pub time_field : Option Start → (slot : Option ℕ) → List (List ℕ)
time_field None slot = []
time_field (Some start) slot = time_text start slot ∷ []

-- where a table is of the groups of a network, a first column has the number of the group
abbrev pub group_field : (group : Option ℕ) → List (List ℕ)
group_field None = []
group_field (Some group) = decimal group ∷ []

-- the first line has the names of the columns
abbrev pub column_names : Option Start → List (List ℕ)
column_names start = codes "row" ∷ codes "name" ∷ codes "cell" ∷ codes "says" ∷ time_name start

abbrev pub header_line : Option Start → List ℕ
header_line start = line (column_names start)

abbrev pub cell_text : Cell → List ℕ
cell_text cell = decimal cell.lac ++ (codes "-" ++ decimal cell.ci)

abbrev pub spaced_cell : Cell → List ℕ
spaced_cell cell = codes " " ++ (decimal cell.lac ++ (codes "-" ++ decimal cell.ci))

-- one cell, or several
abbrev pub cells_word : (count : ℕ) → List ℕ
cells_word count = if count == 1 then codes "cell" else codes "cells"

-- causes are those of 3GPP TS 48.049, 8.2, in words
abbrev pub says_text : Says → List ℕ
says_text says.OrdersNothing = codes "orders nothing"
says_text (says.LeavesOut cells) = codes "leaves out" ++ flat_map spaced_cell cells
says_text (says.DoneAt slot) = codes "done at slot " ++ decimal slot
says_text (says.Refused count cause) =
    codes "refused in " ++ (decimal count ++ (codes " " ++ (cells_word count ++ (codes ": " ++ cause_words cause))))
says_text says.PastTheEnd = codes "past the end"
says_text (says.NeverShown count) = codes "never shown in " ++ (decimal count ++ (codes " " ++ cells_word count))
says_text (says.SameAs row) = codes "same identifier and serial number as row " ++ decimal row
says_text says.OnlySpaces = codes "only spaces"
says_text (says.ForcesUcs2 character place pages without) =
    codes "UCS-2 because of " ++ (encode_utf8 character ++ (codes " at " ++ (decimal place ++ (codes ": "
    ++ (decimal pages ++ (codes " pages in place of " ++ decimal without))))))

-- the slot that is said of an order
abbrev pub slot_said : Says → Option ℕ
slot_said (says.DoneAt slot) = Some slot
slot_said other = None

-- the fields of a remark: the row and the name of its order, or else its cell
abbrev pub remark_fields : Option Start → Remark → List (List ℕ)
remark_fields start (remarks.OfOrder row name said) =
    decimal row ∷ name ∷ [] ∷ says_text said ∷ time_field start (slot_said said)
remark_fields start (remarks.NothingIn cell) =
    [] ∷ [] ∷ cell_text cell ∷ codes "gets nothing" ∷ time_field start None

abbrev pub remark_line : (group : Option ℕ) → Option Start → Remark → List ℕ
remark_line group start remark = line (group_field group ++ remark_fields start remark)

abbrev pub remarks_text : Option Start → List Remark → List ℕ
remarks_text start all = header_line start ++ flat_map (remark_line None start) all

-- How full cells get, which is no remark.

abbrev pub fullest_words : Fullest → List ℕ
fullest_words fullest = codes "fullest: " ++ (decimal fullest.share ++ (codes " % at slot " ++ decimal fullest.slot))

abbrev pub fullest_fields : Option Start → Cell → Fullest → List (List ℕ)
fullest_fields start cell fullest =
    [] ∷ [] ∷ cell_text cell ∷ fullest_words fullest ∷ time_field start (Some fullest.slot)

abbrev pub run_fields : Option Start → Record → List (List ℕ)
run_fields start r = fullest_fields start r.cell (fullest_in r)

abbrev pub fullest_line : (group : Option ℕ) → Option Start → Record → List ℕ
fullest_line group start r = line (group_field group ++ run_fields start r)

-- what is remarked, and then how full each cell gets
abbrev pub checked_run_text : Option Start → List Remark → List Record → List ℕ
checked_run_text start all records = remarks_text start all ++ flat_map (fullest_line None start) records

-- what is remarked of a group of a network, and the records of its cells
pub record RemarkedGroup : Type 0 where
  pub remarks : List Remark
  pub records : List Record

abbrev pub remarked_group : List Remark → List Record → RemarkedGroup
remarked_group remarks records = record { remarks = remarks; records = records }

-- the lines of a group of this number: what is remarked, and then how full each cell gets
abbrev pub group_lines : Option Start → (group : ℕ) → RemarkedGroup → List ℕ
group_lines start group one =
    flat_map (remark_line (Some group) start) one.remarks ++ flat_map (fullest_line (Some group) start) one.records

-- those of groups from this number on
abbrev pub lines_of_groups : Option Start → (group : ℕ) → List RemarkedGroup → List ℕ
lines_of_groups start group [] = []
lines_of_groups start group (one ∷ more) = group_lines start group one ++ lines_of_groups start (group + 1) more

-- over those of a network stands the line of the columns' names
abbrev pub network_header : Option Start → List ℕ
network_header start = line (codes "group" ∷ column_names start)

abbrev pub checked_network_text : Option Start → List RemarkedGroup → List ℕ
checked_network_text start each = network_header start ++ lines_of_groups start 0 each
