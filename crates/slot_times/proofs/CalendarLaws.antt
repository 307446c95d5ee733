-- The date of a day is the one that the calendar's library numbers so.
use Rattle.std.proofs.Common.{◌≡◌, ◌∙◌, ℕ, zero, suc, ◌+◌, ◌-◌, ◌<◌, ◌≤◌, pos, ◌+ℤ◌, ◌≤ℤ◌, refl, sym, ap, arith}
use Rattle.std.proofs.lemmas.Int.{by_lt_z}
use Rattle.jiff_core.specs.declared.civil.date.Date.{Date}
use Rattle.jiff_core.specs.Calendar.{IsCivilDate, day_count, day_of_year, days_in_month, days_in_year, days_of_months}
use Rattle.jiff_core.specs.Date.{epoch_day}
use Rattle.jiff_core.proofs.CalendarLemmas.{day_count-day_of_year, day_count-epoch, day_count-later_year}
use Rattle.jiff_core.proofs.CalendarLemmas.{day_count-lt_year, day_count-next_year, day_of_year_bound}
use Rattle.jiff_core.proofs.CalendarLemmas.{days_from_civil-day_count, days_of_months-zero, days_of_months_more}
use Rattle.jiff_core.proofs.CalendarLemmas.{days_of_months_mono}
use Rattle.jiff_core.proofs.DateLemmas.{civil}
use Rattle.jiff_core.proofs.SignedLemmas.{signed_arith}
use Rattle.slot_times.specs.Calendar.{day_in_year, day_of_month, month_from, month_of, year_from, year_of}
use borrow.Author.Differences.{up, down}

-- a day of this year is passed over no year
here : (passed year day : ℕ) → day < days_in_year (pos year) → year_from passed year day ≡ (year, day)
unfolding year_from
here zero year day early = refl
here (suc passed) year day early = grind arith

-- a day of a later year is passed over this one
passed-over : (passed year day : ℕ) → days_in_year (pos year) ≤ day →
    year_from (suc passed) year day ≡ year_from passed (year + 1) (day - days_in_year (pos year))
unfolding year_from
passed-over passed year day late = grind arith

-- a day is in the year that begins with it, or before it, by fewer days than the year has
pub year_from-at : (k passed year day rest : ℕ) → k ≤ passed → rest < days_in_year (pos (k + year)) →
    day + day_count (pos year) 1 1 ≡ day_count (pos (k + year)) 1 1 + rest →
    year_from passed year day ≡ (k + year, rest)
year_from-at zero passed year day rest few early same =
    let none : 0 + year ≡ year = omega arith in
    let is : day ≡ rest = omega (arith, rw none at same) in
    rw (none, is) (here passed year rest (rw none at early))
year_from-at (suc k) zero year day rest few early same = absurd (omega arith)
year_from-at (suc k) (suc passed) year day rest few early same =
    let next = day_count-next_year (pos year) (pos (year + 1)) (omega (arith, signed_arith))
    (omega (arith, signed_arith)) in
    let later = day_count-later_year (pos year) (pos (suc k + year)) (omega (arith, signed_arith))
    (omega (arith, signed_arith)) in
    let far : k + (year + 1) ≡ suc k + year = omega arith in
    passed-over passed year day (omega arith)
    ∙ rw far at (year_from-at k passed (year + 1) (day - days_in_year (pos year)) rest (omega arith) (rw far early)
    (rw far (omega arith)))

month-here : (passed year month day : ℕ) → day < days_in_month (pos year) month →
    month_from passed year month day ≡ (month, day)
unfolding month_from
month-here zero year month day early = refl
month-here (suc passed) year month day early = grind arith

month-passed-over : (passed year month day : ℕ) → days_in_month (pos year) month ≤ day →
    month_from (suc passed) year month day
    ≡ month_from passed year (month + 1) (day - days_in_month (pos year) month)
unfolding month_from
month-passed-over passed year month day late = grind arith

-- the same of a month of a year
pub month_from-at : (k passed year month day rest : ℕ) → k ≤ passed → 1 ≤ month →
    rest < days_in_month (pos year) (k + month) →
    day + days_of_months (pos year) (month - 1) ≡ days_of_months (pos year) (k + month - 1) + rest →
    month_from passed year month day ≡ (k + month, rest)
month_from-at zero passed year month day rest few some early same =
    let none : 0 + month ≡ month = omega arith in
    let is : day ≡ rest = omega (arith, rw none at same) in
    rw (none, is) (month-here passed year month rest (rw none at early))
month_from-at (suc k) zero year month day rest few some early same = absurd (omega arith)
month_from-at (suc k) (suc passed) year month day rest few some early same =
    let next = days_of_months_more (pos year) month some in
    let later = days_of_months_mono (pos year) month (suc k + month - 1) (omega arith) in
    let far : k + (month + 1) ≡ suc k + month = omega arith in
    let back : month + 1 - 1 ≡ month = omega arith in
    month-passed-over passed year month day (omega arith)
    ∙ rw far at (month_from-at k passed year (month + 1) (day - days_in_month (pos year) month) rest (omega arith)
    (omega arith) (rw far early) (rw (far, back) (omega arith)))

-- the date of a day, as numbers, is the one with so many days before it
parts-of : (year month d day : ℕ) → IsCivilDate (pos year) month d → 1970 ≤ year →
    day_count (pos year) month d ≡ day + 4371953 →
    (year ≡ year_of day) × (month ≡ month_of day) × (d ≡ day_of_month day)
parts-of year month d day is late count =
    let place : ℕ = day_of_year (pos year) month d in
    let split = day_count-day_of_year (pos year) month d is.2.0 in
    let bound = day_of_year_bound (pos year) month d is in
    let passed : ℕ = year - 1970 in
    let far : passed + 1970 ≡ year = omega arith in
    let few : passed ≤ 8029 = omega (arith, signed_arith, is.0) in
    let in-year : year_from 8029 1970 day ≡ (year, place - 1) =
    rw far at (year_from-at passed 8029 1970 day (place - 1) few (rw far (omega arith))
    (rw (far, day_count-epoch) (omega arith))) in
    let months : ℕ = month - 1 in
    let far-month : months + 1 ≡ month = omega (arith, is.1) in
    let in-month : month_from 11 year 1 (place - 1) ≡ (month, d - 1) =
    rw far-month at (month_from-at months 11 year 1 (place - 1) (d - 1) (omega (arith, is.1)) (omega arith)
    (rw far-month (omega (arith, is.2))) (rw far-month (omega (arith, is.2, days_of_months-zero (pos year))))) in
    let both : month_from 11 (year_of day) 1 (day_in_year day) ≡ (month, d - 1) =
    ap (λ (at : ℕ × ℕ). month_from 11 at.0 1 at.1) in-year ∙ in-month in
    let day-is : day_of_month day ≡ d - 1 + 1 = ap (λ (at : ℕ × ℕ). at.1 + 1) both in
    (sym (ap (λ (at : ℕ × ℕ). at.0) in-year), sym (ap (λ (at : ℕ × ℕ). at.0) both), omega (arith, is.2))

-- the date that the library numbers so has the year, the month and the day that are defined
pub date-is : (date : Date) (day : ℕ) → epoch_day date +ℤ pos 4371587 ≡ pos (4371587 + day) →
    (date.year ≡ pos (year_of day)) × (date.month ≡ month_of day) × (date.day ≡ day_of_month day)
date-is date day numbered =
    let count : day_count date.year date.month date.day ≡ day + 4371953 =
    omega (arith, signed_arith, days_from_civil-day_count date.year date.month date.day) in
    let late : pos 1970 ≤ℤ date.year = by_lt_z date.year (pos 1970)
    (λ early. absurd (omega (
      arith,
      day_count-epoch,
      day_count-lt_year date.year date.month date.day (pos 1970) 1 1 (civil date) (omega arith) early,
    )))
    (λ late. late) in
    let year : ℕ = up date.year - down date.year in
    let whole : date.year ≡ pos year = omega (arith, signed_arith) in
    let parts = parts-of year date.month date.day day (rw whole at (civil date)) (omega (arith, signed_arith))
    (rw whole at count) in
    (whole ∙ ap pos parts.0, parts.1, parts.2)
