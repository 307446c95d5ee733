-- How often a page of a message stands in an air list (own).
use Rattle.std.specs.Prelude.{ℕ, ◌==◌, Bool, false, ◌&&◌, Option, Some, None, take, slice_range, count_by}
use Rattle.scheduler.specs.Air.{Air}

-- the slot airs this page of that number
abbrev pub airs_page : ℕ → ℕ → Option (ℕ × ℕ) → Bool
airs_page entry page None = false
airs_page entry page (Some used) = (used.0 == entry) && (used.1 == page)

-- how many of the slots before this one air this page of that number
abbrev pub times_aired : ℕ → ℕ → Air → ℕ → ℕ
times_aired entry page air slot = count_by (airs_page entry page) (take slot air)

-- how many of the slots from `from` up to, and without, `to` air it
abbrev pub times_between : ℕ → ℕ → Air → ℕ → ℕ → ℕ
times_between entry page air from to = count_by (airs_page entry page) (slice_range air from to)
