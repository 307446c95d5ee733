-- Steps of a table (own): a reservation that is added, and one that a slot leaves as it is. Contracts of private
-- functions alone speak of it.
use Rattle.std.specs.Prelude.{Bool, true, nat_lt, ◌&&◌, ⊤, ◌≢◌, ℕ, Option, Some, None, List, All, Any}
use Rattle.admission.specs.declared.budget.Held.{Held}
use Rattle.admission.specs.declared.budget.Waits.{Waits}
use Rattle.admission.specs.Reservation.{is_before_end}
use Rattle.admission.specs.Waiting.{behind_of, HandsOver}

-- a reservation of that load that waits so, or not, may be added: where it waits, another hands over to it, and none
-- waits behind that one yet
abbrev pub HasPlace : ℕ → Option Waits → List Held → Type 0
HasPlace load None table = ⊤
HasPlace load (Some w) table = Any (HandsOver load w) table × All (λ h. behind_of h ≢ Some w.behind) table

-- what is waited for at a slot, if anything is, is waited for still
abbrev pub goes_on : ℕ → Option Waits → Bool
goes_on slot None = true
goes_on slot (Some w) = nat_lt slot w.start

-- a reservation that is the same past a slot: it hasn't ended by then, and doesn't start
abbrev pub stays_at : ℕ → Held → Bool
stays_at slot h = is_before_end slot h.end && goes_on slot h.waits
