-- The times of slots on worked values. A slot lasts 24480/13 ms, so that slot 1911 begins after 3,598.56 s, slot 1912
-- after 3,600.44 s, and slot 65535 after 123,407.4 s.
use Rattle.std.proofs.Common.{◌≡◌, codes, refl, None, Some}
use Rattle.std.specs.Fmt.{digits}
use Rattle.chart.specs.Time.{clock_text, hours_text, time_text, two_digits}
use Rattle.slot_times.specs.declared.start.Start.{Start}

first_slot : time_text None 1 ≡ codes "0:00:01"
unfolding time_text clock_text hours_text two_digits digits
first_slot = refl

before_the_hour : time_text None 1911 ≡ codes "0:59:58"
unfolding time_text clock_text hours_text two_digits digits
before_the_hour = refl

after_the_hour : time_text None 1912 ≡ codes "1:00:00"
unfolding time_text clock_text hours_text two_digits digits
after_the_hour = refl

longest_run : time_text None 65535 ≡ codes "34:16:47"
unfolding time_text clock_text hours_text two_digits digits
longest_run = refl

-- times of a day that is over
after_midnight : (start : Start) → clock_text (Some start) 90065 ≡ codes "01:01:05"
unfolding clock_text hours_text two_digits digits
after_midnight start = refl

before_midnight : (start : Start) → clock_text (Some start) 86399 ≡ codes "23:59:59"
unfolding clock_text hours_text two_digits digits
before_midnight start = refl
