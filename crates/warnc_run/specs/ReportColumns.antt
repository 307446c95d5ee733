-- The plain report of a run and the full one, and the one without times and with them (own).
use Rattle.std.specs.Prelude.{◌≡◌, ℕ, List, map, take}
use Rattle.std.specs.List.{flat_map}
use Rattle.alert_book.specs.declared.network.Origin.{Origin}
use Rattle.report.specs.Laws.{plain_of, untimed_columns}
use Rattle.report.specs.ReportText.{line}
use Rattle.report.specs.declared.row.Columns.{Columns}
use Rattle.report.specs.declared.row.Columns.TheVariants as columns
use Rattle.slot_times.specs.declared.start.Start.{Start}
use Rattle.warnc_run.specs.Products.{IsReportedFrom, timed, untimed}

-- a full report is the lines of a table, and the plain one the lines of what is left of the table if the first two
-- columns, and those after the next eight, are left out
pub record IsCutFrom (full plain : List ℕ) : Type 0 where
  pub table : List (List (List ℕ))
  pub full_is : full ≡ flat_map line table
  pub plain_is : plain ≡ flat_map line (map plain_of table)

-- of each book, or group of a network, and each number of slots
abbrev pub PlainReportIsCut : Type 0
PlainReportIsCut = (from : Origin) (slots : ℕ) (input full plain : List ℕ)
    → IsReportedFrom from slots (untimed columns.Full) input full
    → IsReportedFrom from slots (untimed columns.Plain) input plain
    → IsCutFrom full plain

-- a report with times is the lines of a table, and the one without times the lines of what is left of the table if the
-- columns of times are left out
pub record IsTimesCutFrom (wanted : Columns) (with_times without : List ℕ) : Type 0 where
  pub table : List (List (List ℕ))
  pub with_is : with_times ≡ flat_map line table
  pub without_is : without ≡ flat_map line (map (take (untimed_columns wanted)) table)

-- of each book, or group of a network, each number of slots, and each start
abbrev pub UntimedReportIsCut : Type 0
UntimedReportIsCut = (from : Origin) (slots : ℕ) (wanted : Columns) (start : Start)
    (input with_times without : List ℕ)
    → IsReportedFrom from slots (timed wanted start) input with_times
    → IsReportedFrom from slots (untimed wanted) input without
    → IsTimesCutFrom wanted with_times without
