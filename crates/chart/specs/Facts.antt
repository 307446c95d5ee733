-- What counts of a cell (own): how many messages it took, how many orders it refused, and how full it gets.
use Rattle.std.specs.Prelude.{ℕ, ◌+◌, ◌-◌, ◌*◌, ◌==◌, Bool, true, false, List, ◌++◌, count_by, fold, length, max}
use Rattle.std.specs.Fmt.{decimal}
use Rattle.std.specs.Int.{div_ceil}
use Rattle.std.specs.List.{position_from}
use Rattle.std.specs.Option.{unwrap_or}
use Rattle.admission.specs.declared.measure.TheConstants.{SCALE}
use Rattle.report.specs.declared.row.Row.{Row}
use Rattle.report.specs.declared.row.Showing.{Showing}
use Rattle.report.specs.declared.row.Showing.TheVariants as shown_status
use Rattle.bsc_table.specs.Record.{Record}
use Rattle.chart.specs.declared.facts.Facts.{Facts}
use Rattle.chart.specs.declared.fullest.Fullest.{Fullest}
use Rattle.chart.specs.declared.word.Wording.{Wording}
use Rattle.chart.specs.declared.word.Word.TheVariants as words
use Rattle.chart.specs.Words.{word_by}
use Rattle.chart.specs.Load.{all_loads}
use Rattle.chart.specs.Time.{time_text}

-- whether a row is of a refused order
abbrev pub is_refusal_by : Showing → Bool
is_refusal_by shown_status.Yes = false
is_refusal_by shown_status.No = false
is_refusal_by (shown_status.Refused number) = true

abbrev pub is_refusal : Row → Bool
is_refusal row = is_refusal_by row.shown

-- the greatest of loads
abbrev pub most_of : List ℕ → ℕ
most_of loads = fold max 0 loads

-- the first slot at which it is reserved
abbrev pub fullest_slot : List ℕ → ℕ
fullest_slot loads = unwrap_or (position_from (λ load. load == most_of loads) 0 loads) 0

-- what counts of a cell with these rows of its report, which has reserved these loads at the slots from this one on
abbrev pub facts_of : List Row → (from : ℕ) → (loads : List ℕ) → Facts
facts_of rows from loads = record {
  messages = length rows - count_by is_refusal rows;
  refused = count_by is_refusal rows;
  most = most_of loads;
  slot = from + fullest_slot loads;
}

-- how many hundredths of a cell a load takes, rounded up
abbrev pub hundredths : (load : ℕ) → ℕ
hundredths load = div_ceil (load * 100) SCALE

-- how full a cell gets in its run: the greatest of the loads that it has reserved at the slots, and the first slot at
-- which it has
abbrev pub fullest_in : Record → Fullest
fullest_in r = record { share = hundredths (most_of (all_loads r)); slot = fullest_slot (all_loads r) }

-- how full a cell gets, and when
unfoldable pub fullest_text : Wording → Facts → List ℕ
fullest_text w facts = decimal (hundredths facts.most) ++ word_by w words.ShareAt ++ time_text w.start facts.slot

-- what counts of it in words
unfoldable pub facts_text : Wording → Facts → List ℕ
facts_text w facts =
    word_by w words.Messages ++ decimal facts.messages ++ word_by w words.Refused ++ decimal facts.refused
    ++ word_by w words.Fullest ++ fullest_text w facts
