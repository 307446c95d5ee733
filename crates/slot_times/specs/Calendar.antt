-- The calendar of ISO 8601 from 1970 on, by days that are numbered from 1970-01-01, which is day 0.
use Rattle.std.specs.Prelude.{ℕ, zero, suc, ◌+◌, ◌-◌, if◌then◌else◌, nat_lt, pos}
use Rattle.jiff_core.specs.Calendar.{days_in_month, days_in_year}

-- the year, and the day in it from 0, of a day that is numbered from the first of a year: as long as the day comes
-- after the year's end, it is one of the next year's or of a later one. At most so many years are passed
unfoldable pub year_from : (passed year day : ℕ) → ℕ × ℕ
year_from zero year day = (year, day)
year_from (suc passed) year day =
    if nat_lt day (days_in_year (pos year)) then (year, day)
    else year_from passed (year + 1) (day - days_in_year (pos year))

-- the same of a month of a year, which has twelve
unfoldable pub month_from : (passed year month day : ℕ) → ℕ × ℕ
month_from zero year month day = (month, day)
month_from (suc passed) year month day =
    if nat_lt day (days_in_month (pos year) month) then (month, day)
    else month_from passed year (month + 1) (day - days_in_month (pos year) month)

-- the year of a day before the year 10000, of which the calendar has no more than four digits
abbrev pub year_of : ℕ → ℕ
year_of day = (year_from 8029 1970 day).0

-- and its day, from 0
abbrev pub day_in_year : ℕ → ℕ
day_in_year day = (year_from 8029 1970 day).1

-- its month, from 1 to 12
abbrev pub month_of : ℕ → ℕ
month_of day = (month_from 11 (year_of day) 1 (day_in_year day)).0

-- its place in the month, from 1
abbrev pub day_of_month : ℕ → ℕ
day_of_month day = (month_from 11 (year_of day) 1 (day_in_year day)).1 + 1
