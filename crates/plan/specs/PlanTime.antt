-- Times in a plan: AT and PERIOD may be given in hours, minutes and seconds. Own.
use Rattle.std.specs.Prelude.{ℕ, ◌+◌, ◌*◌, ◌/◌, ◌==◌, not, max, if◌then◌else◌, Bool, Option, Some, None, List, drop}
use Rattle.std.specs.Prelude.{take, map}
use Rattle.std.specs.Prelude.{codes}
use Rattle.std.specs.Char.{is_ascii_digit, to_ascii_lowercase}
use Rattle.std.specs.Fmt.{decimal}
use Rattle.std.specs.List.{after_first, before_first, position_or_len}
use Rattle.std.specs.Str.{bytes_eq}
use Rattle.alert_book.specs.Number.{number_within}
use Rattle.plan.specs.PlanText.{without_front}

-- a slot is eight 51-multiframes of 120/26 ms each, which is 24,480 of 13,000 parts of a second: how many slots a time
-- in seconds has, the last one maybe in part
abbrev pub slots_of : (seconds : ℕ) → ℕ
slots_of seconds = (seconds * 13000 + 24479) / 24480

abbrev pub is_colon : ℕ → Bool
is_colon octet = octet == 58

-- hours, minutes and seconds
abbrev pub seconds_from : Option ℕ → Option ℕ → Option ℕ → Option ℕ
seconds_from None minutes seconds = None
seconds_from (Some hours) None seconds = None
seconds_from (Some hours) (Some minutes) None = None
seconds_from (Some hours) (Some minutes) (Some seconds) = Some (hours * 3600 + minutes * 60 + seconds)

-- `h:mm:ss`
abbrev pub clock_seconds : List ℕ → Option ℕ
clock_seconds text =
    let rest = after_first is_colon text in
    seconds_from (number_within 0 65535 (before_first is_colon text)) (number_within 0 59 (before_first is_colon rest))
    (number_within 0 59 (after_first is_colon rest))

-- how many seconds a unit has: `s`, `min` or `h`
abbrev pub unit_of : (word : List ℕ) → Option ℕ
unit_of word =
    if bytes_eq word (codes "s") then Some 1
    else if bytes_eq word (codes "min") then Some 60
    else if bytes_eq word (codes "h") then Some 3600
    else None

abbrev pub times : Option ℕ → Option ℕ → Option ℕ
times None unit = None
times (Some number) None = None
times (Some number) (Some unit) = Some (number * unit)

abbrev pub is_no_digit : ℕ → Bool
is_no_digit octet = not (is_ascii_digit octet)

-- a number with a unit behind it, and maybe space between them
abbrev pub unit_seconds : List ℕ → Option ℕ
unit_seconds text =
    let digits = position_or_len is_no_digit text in
    times (number_within 0 65535 (take digits text))
    (unit_of (map to_ascii_lowercase (without_front (drop digits text))))

-- a time in either form
abbrev pub first_of : Option ℕ → Option ℕ → Option ℕ
first_of None other = other
first_of (Some seconds) other = Some seconds

abbrev pub seconds_of : List ℕ → Option ℕ
seconds_of text = first_of (clock_seconds text) (unit_seconds text)

-- what stands in the book for a field of AT or PERIOD: the slots of a time, but no less than these, and else the field
abbrev pub slots_or : (least : ℕ) → List ℕ → Option ℕ → List ℕ
slots_or least text None = text
slots_or least text (Some seconds) = decimal (max least (slots_of seconds))

abbrev pub time_text : (least : ℕ) → List ℕ → List ℕ
time_text least text = slots_or least text (seconds_of text)
