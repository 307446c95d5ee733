-- What is drawn of a run (own): the whole run, or a part of it.
use Rattle.std.specs.Prelude.{ℕ, ◌-◌, ◌==◌, ◌&&◌, ◌||◌, not, nat_le, nat_lt, max, min, Bool, true, false}
use Rattle.std.specs.Prelude.{if◌then◌else◌, Option, Some, None}
use Rattle.chart.specs.declared.view.Part.{Part}
use Rattle.chart.specs.declared.view.Stretch.{Stretch}
use Rattle.report.specs.declared.row.Row.{Row}

-- the slots that are drawn of a run of so many: all, or those of a part, as far as the run goes
abbrev pub stretch_of : Option Part → (slots : ℕ) → Stretch
stretch_of None slots = record { from = 0; to = slots; is_part = false }
stretch_of (Some part) slots = record {
  from = min part.from slots;
  to = max (min part.from slots) (min part.to slots);
  is_part = true;
}

abbrev pub width_of : Stretch → ℕ
width_of s = s.to - s.from

abbrev pub holds : Stretch → (slot : ℕ) → Bool
holds s slot = nat_le s.from slot && nat_lt slot s.to

-- whether what lasts from a slot to another one touches a part: what begins and ends at one slot does so at its edges
-- too
abbrev pub touches : (from to start end : ℕ) → Bool
touches from to start end =
    if start == end then nat_le from start && nat_le start to
    else nat_lt (min start end) to && nat_lt from (max start end)

-- a row has a line in a part that it touches
abbrev pub is_drawn : Stretch → Row → Bool
is_drawn s row = not s.is_part || touches s.from s.to row.start row.end

-- a bar is cut to the part
abbrev pub bar_from : Stretch → Row → ℕ
bar_from s row = max row.start s.from

abbrev pub bar_width : Stretch → Row → ℕ
bar_width s row = min row.end s.to - bar_from s row
