-- What holds of remarks by their definition alone (own).
use Rattle.std.specs.Prelude.{◌≡◌, ℕ, ◌≤◌, false, true, Option, Some, None, List, [], ◌∷◌, ◌++◌, map, take}
use Rattle.std.specs.Prelude.{slice_index_or}
use Rattle.std.specs.List.{flat_map, slice_get}
use Rattle.alert_book.specs.declared.book.order.Order.{Order}
use Rattle.bsc_table.specs.Record.{Record}
use Rattle.alert_book.specs.declared.judging.bounds.Extent.{Extent}
use Rattle.alert_book.specs.Extent.{bounds_of}
use Rattle.book_check.specs.Checked.{IsCheckedBy}
use Rattle.book_remarks.specs.declared.mark.Mark.{Mark}
use Rattle.book_remarks.specs.declared.mark.Mark.TheVariants as marks
use Rattle.asked_orders.specs.Asked.{names}
use Rattle.book_remarks.specs.Answers.{column_of}
use Rattle.book_remarks.specs.Remarks.{remarks_in}
use Rattle.book_remarks.specs.Remarked.{IsRemarked}
use Rattle.book_remarks.specs.RemarksText.{checked_run_text, column_names, line, remark_fields, run_fields}
use Rattle.book_remarks.specs.declared.remarks.Remark.{Remark}
use Rattle.slot_times.specs.declared.start.Start.{Start}

-- the cell did what was ordered for this slot, and no later; and if that was to send a message, its last page was sent
abbrev pub IsKept : (at : ℕ) → Mark → Type 0
IsKept at marks.Elsewhere = ⊥
IsKept at marks.LeftOut = ⊥
IsKept at (marks.Done slot unseen) = (slot ≤ at) × (unseen ≡ false)
IsKept at (marks.Refused cause) = ⊥

-- where nothing is remarked, each cell of the run did what each order that names it orders, and no later than at its
-- slot, and sent the last page of its message
abbrev pub UnremarkedAreKept : Type 0
UnremarkedAreKept = (orders : List Order) (records : List Record) (place : ℕ) (order : Order) (k : ℕ) (r : Record)
    → remarks_in orders records ≡ []
    → slice_get orders place ≡ Some order
    → slice_get records k ≡ Some r
    → names order r.cell ≡ true
    → IsKept order.at (slice_index_or (column_of orders r).marks place marks.Elsewhere)

-- octets have one table of remarks for a number of slots, with the times by which slot 0 begins then or with none; and
-- as many remarks whenever it begins
abbrev pub RemarksAreOne : Type 0
RemarksAreOne = (what : Extent) (slots : ℕ) (start begun : Option Start) (input output another : List ℕ)
    (count other : ℕ)
    → IsRemarked what slots start input count output
    → IsRemarked what slots begun input other another
    → (count ≡ other) × (start ≡ begun → output ≡ another)

-- and where they have one, no row has a fault
abbrev pub RemarkedAreClean : Type 0
RemarkedAreClean = (what : Extent) (slots : ℕ) (start : Option Start) (input output told : List ℕ) (count faults : ℕ)
    → IsRemarked what slots start input count output
    → IsCheckedBy (bounds_of what) input faults told
    → faults ≡ 0

-- the fields of the lines of a table: the columns' names, the remarks, and how full each cell gets
abbrev pub fields_of_run : Option Start → List Remark → List Record → List (List (List ℕ))
fields_of_run start all records =
    column_names start ∷ (map (remark_fields start) all ++ map (run_fields start) records)

-- how many columns there are without times
abbrev pub said_columns : ℕ
said_columns = 4

-- a table with times is the lines of its fields, and the table of the same remarks and records without times the lines
-- of what is left of them if the column of times is left out
pub record AreOfOneRun (start : Start) (all : List Remark) (records : List Record) : Type 0 where
  pub timed : checked_run_text (Some start) all records ≡ flat_map line (fields_of_run (Some start) all records)
  pub untimed : checked_run_text None all records
      ≡ flat_map line (map (take said_columns) (fields_of_run (Some start) all records))

abbrev pub UntimedLacksTimes : Type 0
UntimedLacksTimes = (start : Start) (all : List Remark) (records : List Record) → AreOfOneRun start all records
