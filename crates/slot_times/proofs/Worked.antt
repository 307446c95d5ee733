-- Times that `date -u` and Python's datetime give, and begins of slots by Python's fractions.
use Rattle.std.proofs.Common.{◌≡◌, refl, codes}
use Rattle.slot_times.specs.Calendar.{month_from, year_from}
use Rattle.slot_times.specs.SlotTime.{instant_text, slot_begin}

-- the first time, and the first slot after it
first : instant_text 0 ≡ codes "1970-01-01T00:00:00.000Z"
unfolding year_from month_from
first = refl

-- leap days, and the year 2100, which has none
leap_2000 : instant_text 951782400883 ≡ codes "2000-02-29T00:00:00.883Z"
unfolding year_from month_from
leap_2000 = refl

leap_2024 : instant_text 1709164800000 ≡ codes "2024-02-29T00:00:00.000Z"
unfolding year_from month_from
leap_2024 = refl

no_leap_2100 : instant_text 4107542400000 ≡ codes "2100-03-01T00:00:00.000Z"
unfolding year_from month_from
no_leap_2100 = refl

-- a year's last millisecond
end_2026 : instant_text 1798761599999 ≡ codes "2026-12-31T23:59:59.999Z"
unfolding year_from month_from
end_2026 = refl

-- the latest slot of the latest start
latest : instant_text 12379500998584 ≡ codes "2362-04-17T06:16:38.584Z"
unfolding year_from month_from
latest = refl

-- a slot begins 24480 / 13 milliseconds after the one before it: one ends just below a millisecond, and is cut to that
-- before it
slot_1 : slot_begin 1795977000000000 1 ≡ 1795977001883
slot_1 = refl

just_below : slot_begin 1795977000000923 1 ≡ 1795977001883
just_below = refl

just_reached : slot_begin 1795977000000924 1 ≡ 1795977001884
just_reached = refl

latest_slot : slot_begin 4291747199999999 4294967295 ≡ 12379500998584
latest_slot = refl
