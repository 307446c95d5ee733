-- By how many slots the first pages of messages are off (own). The contracts of private functions alone speak of it.
use Rattle.std.specs.Prelude.{ℕ, max, Option, None, List, [], ◌∷◌}
use Rattle.verification.specs.declared.came.Came.{Came}
use Rattle.verification.specs.declared.shift.Shift.{Shift}
use Rattle.verification.specs.Came.{came_asked}
use Rattle.verification.specs.Shift.{early_by, slot_of_first, late_by, smaller, shift_by}

abbrev pub came_early_by : Came → ℕ
came_early_by k = early_by (came_asked k) (slot_of_first k.pages.items)

abbrev pub came_late_by : Came → Option ℕ
came_late_by k = late_by (came_asked k) (slot_of_first k.pages.items)

abbrev pub came_early : List Came → ℕ
came_early [] = 0
came_early (k ∷ came) = max (came_early_by k) (came_early came)

abbrev pub came_late : List Came → Option ℕ
came_late [] = None
came_late (k ∷ came) = smaller (came_late_by k) (came_late came)

abbrev pub shift_of_came : List Came → Option Shift
shift_of_came came = shift_by (came_early came) (came_late came)
