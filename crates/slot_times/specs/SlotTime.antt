-- When a slot of the cell broadcast channel begins, on the clock (ISO 8601, in UTC).
use Rattle.std.specs.Prelude.{ℕ, ◌+◌, ◌*◌, ◌/◌, ◌%◌, List, [], ◌∷◌, ◌++◌, codes}
use Rattle.slot_times.specs.Calendar.{day_of_month, month_of, year_of}
use Rattle.slot_times.specs.declared.start.Start.{Start}

-- a slot takes eight multiframes of 51 frames (3GPP TS 45.002, 6.5.4)
abbrev pub frames_in_slot : ℕ
frames_in_slot = 8 * 51

-- the whole milliseconds from 1970-01-01T00:00:00Z to the begin of a slot, where slot 0 begins so many microseconds
-- after that, cut from the exact fraction: a frame takes 120 / 26 milliseconds (3GPP TS 45.002, 4.3.3)
abbrev pub slot_begin : (microseconds slot : ℕ) → ℕ
slot_begin microseconds slot = (26 * microseconds + slot * frames_in_slot * 120 * 1000) / (26 * 1000)

-- the last decimal digits of a number
abbrev pub digit : ℕ → ℕ
digit n = 48 + n % 10

abbrev pub two : ℕ → List ℕ
two n = digit (n / 10) ∷ digit n ∷ []

abbrev pub three : ℕ → List ℕ
three n = digit (n / 100) ∷ two n

abbrev pub four : ℕ → List ℕ
four n = digit (n / 1000) ∷ three n

-- a date, as 2026-11-29
abbrev pub date_text : (day : ℕ) → List ℕ
date_text day = four (year_of day) ++ codes "-" ++ two (month_of day) ++ codes "-" ++ two (day_of_month day)

-- a time of day, as 18:30:01.883, by its milliseconds since midnight
abbrev pub day_time_text : (milliseconds : ℕ) → List ℕ
day_time_text milliseconds =
    two (milliseconds / 3600000) ++ codes ":" ++ two (milliseconds / 60000 % 60) ++ codes ":"
    ++ two (milliseconds / 1000 % 60) ++ codes "." ++ three (milliseconds % 1000)

-- a time, as 2026-11-29T18:30:01.883Z, by its milliseconds since 1970-01-01T00:00:00Z
abbrev pub instant_text : (milliseconds : ℕ) → List ℕ
instant_text milliseconds =
    date_text (milliseconds / 86400000) ++ codes "T" ++ day_time_text (milliseconds % 86400000) ++ codes "Z"

-- the text of the time at which a slot begins
unfoldable pub slot_time : Start → (slot : ℕ) → List ℕ
slot_time start slot = instant_text (slot_begin start.microseconds slot)
