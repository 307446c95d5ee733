-- How many broadcasts of a message came. Own.
use Rattle.std.specs.Prelude.{ℕ, ◌-◌, ◌==◌, ◌&&◌, nat_le, nat_lt, min, Bool, if◌then◌else◌}
use Rattle.std.specs.Prelude.{Option, List, length, count_by, find, fold, option_map}
use Rattle.std.specs.List.{range_with_len}
use Rattle.verification.specs.declared.judged.JudgedPage.{JudgedPage}

-- a right page of this number that was sent by a slot
abbrev pub is_right_by : (last number : ℕ) → JudgedPage → Bool
is_right_by last number page = (page.number == number) && (page.right && nat_le page.slot last)

-- how often the page of a number came right by a slot
abbrev pub times_by : List JudgedPage → (last number : ℕ) → ℕ
times_by pages last number = count_by (is_right_by last number) pages

-- how many whole broadcasts of a message of so many pages came by a slot: as many as its page that came least often
abbrev pub whole_by : (total : ℕ) → List JudgedPage → (last : ℕ) → ℕ
whole_by total pages last =
    fold (λ (least number : ℕ). min least (times_by pages last number)) (length pages) (range_with_len 1 total)

-- and before a slot
abbrev pub whole_before : (total : ℕ) → List JudgedPage → (end : ℕ) → ℕ
whole_before total pages end = if end == 0 then 0 else whole_by total pages (end - 1)

-- the first page with which more broadcasts are whole than were requested
abbrev pub is_more : (total broadcasts : ℕ) → List JudgedPage → JudgedPage → Bool
is_more total broadcasts pages page = nat_lt broadcasts (whole_by total pages page.slot)

abbrev pub first_more : (total broadcasts : ℕ) → List JudgedPage → Option ℕ
first_more total broadcasts pages =
    option_map (λ (page : JudgedPage). page.slot) (find (is_more total broadcasts pages) pages)
