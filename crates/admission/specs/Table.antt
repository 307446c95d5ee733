-- The table of a budget (own): the reservations in the order of their reserving.
use Rattle.std.specs.Prelude.{◌≡◌, ◌≢◌, Bool, ℕ, ◌+◌, ◌-◌, ◌≤◌, ◌==◌, not, nat_lt, nat_le, if◌then◌else◌, Option, Some}
use Rattle.std.specs.Prelude.{None, Result, Ok, Err, List, length, filter, map, sum_by, find, All, Any, AllPairs}
use Rattle.admission.specs.declared.budget.Held.{Held}
use Rattle.admission.specs.declared.budget.Waits.{Waits}
use Rattle.admission.specs.declared.budget.NoRoom.{NoRoom}
use Rattle.admission.specs.declared.budget.NoRoom.TheVariants.{Table, Load}
use Rattle.admission.specs.declared.measure.TheConstants.{SCALE}
use Rattle.admission.specs.Reservation.{is_before_end}
use Rattle.admission.specs.Waiting.{held_now, HandsOver, started_at}

-- the most reservations of a budget at a time
abbrev pub max_reserved : ℕ
max_reserved = 64

-- each entry stands once, there are at most 64, what they hold now is no more than SCALE, each that waits, waits
-- behind one that hands over to it, and no two wait behind the same one
pub record IsAdmitted (table : List Held) : Type 0 where
  pub distinct : AllPairs (λ a b. a.entry ≢ b.entry) table
  pub places : length table ≤ max_reserved
  pub loads : sum_by held_now table ≤ SCALE
  pub handed : All (λ h. (w : Waits) → h.waits ≡ Some w → Any (HandsOver h.load w) table) table
  pub alone : AllPairs (λ a b. (v w : Waits) → a.waits ≡ Some v → b.waits ≡ Some w → v.behind ≢ w.behind) table

-- whether a load has room beside so many reserved messages that hold so much: `Table` where they are 64, else `Load`
-- where the sum with the load would be over SCALE
abbrev pub room_answer : ℕ → ℕ → ℕ → Result (Unit {0}) NoRoom
room_answer places total load =
    if nat_lt places max_reserved then (if nat_le (total + load) SCALE then Ok tt else Err Load) else Err Table

-- whether a load has room beside a table
abbrev pub room_answer_for : List Held → ℕ → Result (Unit {0}) NoRoom
room_answer_for table load = room_answer (length table) (sum_by held_now table) load

-- the table without the entry that is leaving, if one is
abbrev pub remaining_without : Option ℕ → List Held → List Held
remaining_without None table = table
remaining_without (Some leaving) table = filter (λ h. not (h.entry == leaving)) table

-- the load of an entry; 0 where it is not reserved
abbrev pub load_in : Option Held → ℕ
load_in None = 0
load_in (Some h) = h.load

abbrev pub load_for : ℕ → List Held → ℕ
load_for entry table = load_in (find (λ h. h.entry == entry) table)

-- what a load has over that of the entry, or 0
abbrev pub excess_over : ℕ → ℕ → List Held → ℕ
excess_over entry load table = load - load_for entry table

-- the reservation that ends at the slot, if the test says so, else the reservation as it is
abbrev pub ends_if : Bool → ℕ → Held → Held
ends_if says slot h = record h { end = if says then Some slot else h.end }

-- the table in which the entry's reservation ends at the slot
abbrev pub ends_at : ℕ → ℕ → List Held → List Held
ends_at entry slot table = map (λ h. ends_if (h.entry == entry) slot h) table

-- the table at a slot: without what ended by then, and what has started by then waits no more
abbrev pub passed : ℕ → List Held → List Held
passed slot table = map (started_at slot) (filter (λ h. is_before_end slot h.end) table)
