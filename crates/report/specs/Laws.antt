-- What reports of the same rows have in common: a full one and a plain one, and one with times and one without (own).
use Rattle.std.specs.Prelude.{◌≡◌, Bool, true, false, ℕ, ◌+◌, List, [], ◌∷◌, ◌++◌, drop, map, take}
use Rattle.std.specs.List.{flat_map}
use Rattle.report.specs.ReportText.{full_fields, full_names, full_part_text, line, part_text, time_fields, time_names}
use Rattle.report.specs.ReportText.{timed_part_text, untimed_fields, untimed_names, untimed_part_text}
use Rattle.report.specs.Sources.{Orders}
use Rattle.report.specs.declared.row.Columns.{Columns}
use Rattle.report.specs.declared.row.Columns.TheVariants as columns
use Rattle.report.specs.declared.row.Row.{Row}
use Rattle.slot_times.specs.declared.start.Start.{Start}

-- the fields of the lines of a full report: the columns' names, if it is headed, and the fields of each row
abbrev pub names_if : (headed : Bool) → List (List (List ℕ))
names_if true = full_names ∷ []
names_if false = []

abbrev pub full_table : (headed : Bool) → Orders → List Row → List (List (List ℕ))
full_table headed orders rows = names_if headed ++ map (full_fields orders) rows

-- how many columns a plain report has, and how many a full one has before them
abbrev pub plain_columns : ℕ
plain_columns = 8

abbrev pub order_columns : ℕ
order_columns = 2

-- what a plain report has of the fields of a full one
abbrev pub plain_of : List (List ℕ) → List (List ℕ)
plain_of fields = take plain_columns (drop order_columns fields)

-- a full report is the lines of its table, and the plain report of the same rows the lines of what is left of that
-- table if the first two columns, and those after the next eight, are left out
pub record AreOfOneTable (headed : Bool) (orders : Orders) (rows : List Row) : Type 0 where
  pub full : full_part_text headed orders rows ≡ flat_map line (full_table headed orders rows)
  pub plain : part_text headed rows ≡ flat_map line (map plain_of (full_table headed orders rows))

abbrev pub PlainIsFullCut : Type 0
PlainIsFullCut = (headed : Bool) (orders : Orders) (rows : List Row) → AreOfOneTable headed orders rows

-- the fields of the lines of a report with times
abbrev pub timed_names_if : Columns → (headed : Bool) → List (List (List ℕ))
timed_names_if wanted true = (untimed_names wanted ++ time_names wanted) ∷ []
timed_names_if wanted false = []

abbrev pub timed_table : Columns → Start → (headed : Bool) → Orders → List Row → List (List (List ℕ))
timed_table wanted start headed orders rows =
    timed_names_if wanted headed ++ map (λ r. untimed_fields wanted orders r ++ time_fields wanted start r) rows

-- how many columns a report has without times
abbrev pub untimed_columns : Columns → ℕ
untimed_columns columns.Plain = plain_columns
untimed_columns columns.Full = order_columns + 13

-- a report with times is the lines of its table, and the report of the same rows without times the lines of what is
-- left of that table if the columns of times are left out
pub record AreOfOneTimedTable (wanted : Columns) (start : Start) (headed : Bool) (orders : Orders) (rows : List Row)
    : Type 0
  where
    pub timed : timed_part_text wanted start headed orders rows
        ≡ flat_map line (timed_table wanted start headed orders rows)
    pub untimed : untimed_part_text wanted headed orders rows
        ≡ flat_map line (map (take (untimed_columns wanted)) (timed_table wanted start headed orders rows))

abbrev pub UntimedIsTimedCut : Type 0
UntimedIsTimedCut =
    (wanted : Columns) (start : Start) (headed : Bool) (orders : Orders) (rows : List Row)
    → AreOfOneTimedTable wanted start headed orders rows
