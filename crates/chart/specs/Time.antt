-- The times of slots, and the axis under a cell's lines (own).
use Rattle.std.specs.Prelude.{ℕ, ◌+◌, ◌-◌, ◌*◌, ◌/◌, ◌%◌, Bool, nat_le, nat_lt, if◌then◌else◌, List, [], ◌++◌}
use Rattle.std.specs.Prelude.{Option, Some, None}
use Rattle.std.specs.Fmt.{decimal}
use Rattle.std.specs.Int.{div_ceil}
use Rattle.std.specs.List.{flat_map, range_with_len}
use Rattle.chart.specs.View.{width_of}
use Rattle.chart.specs.declared.view.Stretch.{Stretch}
use Rattle.chart.specs.declared.time.TheConstants as times
use Rattle.chart.specs.declared.word.Wording.{Wording}
use Rattle.chart.specs.declared.word.Word.TheVariants as words
use Rattle.chart.specs.Words.{word_by}
use Rattle.slot_times.specs.declared.start.Start.{Start}

-- a number below 100 in two digits
unfoldable pub two_digits : ℕ → List ℕ
two_digits number = decimal (number / 10) ++ decimal (number % 10)

-- how many microseconds of its day, in UTC, had passed when slot 0 began; none where that isn't known, and times are
-- those since then
abbrev pub day_begun : Option Start → ℕ
day_begun None = 0
day_begun (Some start) = start.microseconds % 86400000000

-- the hours of this many seconds, or of the day that they are in
unfoldable pub hours_text : Option Start → (seconds : ℕ) → List ℕ
hours_text None seconds = decimal (seconds / 3600)
hours_text (Some start) seconds = two_digits (seconds / 3600 % 24)

-- this many seconds in hours, minutes and seconds, as 1:05:09, or the time of day, as 01:05:09
unfoldable pub clock_text : Option Start → (seconds : ℕ) → List ℕ
clock_text start seconds =
    hours_text start seconds ++ times.COLON.now ++ two_digits (seconds / 60 % 60) ++ times.COLON.now
    ++ two_digits (seconds % 60)

-- when a slot begins, cut down to whole seconds: a slot lasts 8 * 51 frames of 120/26 ms (3GPP TS 45.002), which are
-- 24480000/13 microseconds
abbrev pub seconds_at : Option Start → (slot : ℕ) → ℕ
seconds_at start slot = (day_begun start * 13 + slot * 24480000) / 13000000

unfoldable pub time_text : Option Start → (slot : ℕ) → List ℕ
time_text start slot = clock_text start (seconds_at start slot)

-- that time in brackets, and a slot with it
unfoldable pub time_in_brackets : Option Start → (slot : ℕ) → List ℕ
time_in_brackets start slot = times.BRACKET.now ++ time_text start slot ++ times.BRACKET_END.now

unfoldable pub slot_text : Option Start → (slot : ℕ) → List ℕ
slot_text start slot = decimal slot ++ time_in_brackets start slot

-- the axis has a tick at each multiple of a round step, since the run began or since midnight: the first of these of
-- which a run lasts less than six
abbrev pub has_few : (step seconds : ℕ) → Bool
has_few step seconds = nat_lt seconds (step * 6)

abbrev pub step_of : (seconds : ℕ) → ℕ
step_of seconds =
    if has_few 10 seconds then 10 else if has_few 30 seconds then 30 else if has_few 60 seconds then 60
    else if has_few 120 seconds then 120 else if has_few 300 seconds then 300 else if has_few 600 seconds then 600
    else if has_few 1800 seconds then 1800 else if has_few 3600 seconds then 3600
    else if has_few 7200 seconds then 7200 else if has_few 14400 seconds then 14400 else 21600

-- where a time stands on the axis, in hundredths of a slot, and that in slots
abbrev pub place_of : Option Start → (seconds : ℕ) → ℕ
place_of start seconds = (seconds * 1000000 - day_begun start) * 1300 / 24480000

unfoldable pub place_text : (place : ℕ) → List ℕ
place_text place = decimal (place / 100) ++ times.POINT.now ++ two_digits (place % 100)

-- a tick: where it stands, of how many slots that are drawn, and then the slot that is on the air there, and the time
unfoldable pub tick_front : (width place : ℕ) → List ℕ
tick_front width place = times.TICK.now ++ place_text place ++ times.OF.now ++ decimal width ++ times.TICK_PLACED.now

unfoldable pub tick : Option Start → Stretch → (seconds : ℕ) → List ℕ
tick start s seconds =
    tick_front (width_of s) (place_of start seconds - s.from * 100) ++ decimal (place_of start seconds / 100)
    ++ times.AT.now ++ clock_text start seconds ++ times.TICK_END.now

-- it comes no later than the end of what is drawn
abbrev pub tick_within : Option Start → Stretch → (step number : ℕ) → List ℕ
tick_within start s step number =
    if nat_le (number * step) (seconds_at start s.to) then tick start s (number * step) else []

-- the step of an axis, and the number of the first multiple that doesn't come before what is drawn
abbrev pub step_in : Option Start → Stretch → ℕ
step_in start s = step_of (seconds_at start s.to - seconds_at start s.from)

abbrev pub first_number : Option Start → (from step : ℕ) → ℕ
first_number start from step = div_ceil (day_begun start * 13 + from * 24480000) (step * 13000000)

unfoldable pub ticks : Option Start → Stretch → List ℕ
ticks start s =
    flat_map (tick_within start s (step_in start s))
    (range_with_len (first_number start s.from (step_in start s)) times.MOST_TICKS)

unfoldable pub axis : Wording → Stretch → List ℕ
axis w s =
    times.AXIS.now ++ word_by w words.Axis ++ times.AXIS_NAMED.now ++ ticks w.start s ++ times.AXIS_END.now
