-- What loads and reservations promise (own), over their definitions alone.
use Rattle.std.specs.Prelude.{◌≡◌, ℕ, ◌+◌, ◌*◌, ◌%◌, ◌<◌, ◌≤◌, List, filter, sum_by}
use Rattle.admission.specs.declared.measure.TheConstants.{SCALE}
use Rattle.admission.specs.Load.{load_of}
use Rattle.admission.specs.declared.budget.Held.{Held}
use Rattle.admission.specs.Reservation.{Reservation, is_before_end, loads_at, end_of_stopped}
use Rattle.admission.specs.Waiting.{held_now, held_at}
use Rattle.admission.specs.Table.{IsAdmitted, passed}

-- each period of up to 20 slots divides SCALE
abbrev pub PeriodsDivideScale : Type 0
PeriodsDivideScale = (period : ℕ) → 0 < period → period ≤ 20 → SCALE % period ≡ 0

-- and it is the least number of which that is true
abbrev pub ScaleIsTheLeast : Type 0
ScaleIsTheLeast = (other : ℕ) → 0 < other → ((period : ℕ) → 0 < period → period ≤ 20 → other % period ≡ 0)
    → SCALE ≤ other

-- so the load of a message with such a period is exact
abbrev pub LoadsAreExact : Type 0
LoadsAreExact = (pages period : ℕ) → 0 < period → period ≤ 20 → load_of pages period * period ≡ SCALE * pages

-- at no slot are more loads reserved than all of them together
abbrev pub NoSlotOverAll : Type 0
NoSlotOverAll = (reservations : List Reservation) (slot : ℕ) → loads_at reservations slot ≤ sum_by (λ r. r.load)
    reservations

-- from a slot on, the loads at each slot are no more than those of the reservations that have not ended by that slot
abbrev pub NoSlotOverStanding : Type 0
NoSlotOverStanding = (reservations : List Reservation) (clock slot : ℕ)
    → clock ≤ slot
    → loads_at reservations slot ≤ sum_by (λ r. r.load) (filter (λ r. is_before_end clock r.end) reservations)

-- a stop on the boundary of a period ends the reservation at once
abbrev pub StopOnBoundary : Type 0
StopOnBoundary = (start period periods : ℕ)
    → 0 < period
    → end_of_stopped start period (start + periods * period) ≡ start + periods * period

-- and so does a stop at the start of the message, or before it
abbrev pub StopBeforeStart : Type 0
StopBeforeStart = (start period stop : ℕ) → 0 < period → stop ≤ start → end_of_stopped start period stop ≡ stop

-- a stop never makes a reservation last longer than the message would have stood
abbrev pub StopNoLater : Type 0
StopNoLater = (start period broadcasts stop : ℕ)
    → 0 < period
    → stop ≤ start + broadcasts * period
    → end_of_stopped start period stop ≤ start + broadcasts * period

-- each period that begins before the stop lies inside the reservation
abbrev pub StopCovers : Type 0
StopCovers = (start period periods stop : ℕ)
    → 0 < period
    → start + periods * period < stop
    → start + (periods + 1) * period ≤ end_of_stopped start period stop

-- at no slot do the reservations of a budget hold more than now
abbrev pub NoSlotOverNow : Type 0
NoSlotOverNow = (table : List Held) (slot : ℕ) → IsAdmitted table → sum_by (held_at slot) table ≤ sum_by held_now table

-- nor more than SCALE
abbrev pub NoSlotOverScale : Type 0
NoSlotOverScale = (table : List Held) (slot : ℕ) → IsAdmitted table → sum_by (held_at slot) table ≤ SCALE

-- from slot to slot what they hold never rises
abbrev pub HeldNeverRises : Type 0
HeldNeverRises = (table : List Held) (t u : ℕ)
    → IsAdmitted table
    → t ≤ u
    → sum_by (held_at u) table ≤ sum_by (held_at t) table

-- what a table holds once a slot has come is what it was to hold there
abbrev pub PassedIsHeld : Type 0
PassedIsHeld = (table : List Held) (slot : ℕ) → sum_by held_now (passed slot table) ≡ sum_by (held_at slot) table

-- and what it holds at that slot and later ones stays
abbrev pub PassedKeepsLater : Type 0
PassedKeepsLater = (table : List Held) (t u : ℕ)
    → t ≤ u
    → sum_by (held_at u) (passed t table) ≡ sum_by (held_at u) table
