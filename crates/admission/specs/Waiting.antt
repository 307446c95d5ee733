-- Reservations of a budget that wait behind others (own): what each reservation holds, now and at a slot.
use Rattle.std.specs.Prelude.{◌≡◌, ℕ, ◌+◌, ◌≤◌, nat_lt, if◌then◌else◌, Option, Some, None}
use Rattle.std.specs.Prelude.{All, Any, Bool, List, MatchBool}
use Rattle.std.specs.Option.{option_map}
use Rattle.admission.specs.declared.budget.Held.{Held}
use Rattle.admission.specs.declared.budget.Waits.{Waits}
use Rattle.admission.specs.Reservation.{is_before_end}

-- the answer says whether one of the list is so: yes if one is, and no if none is
abbrev pub IsWhether : {X : Type 0} → Bool → (X → Type 0) → List X → Type 0
IsWhether answer P xs = MatchBool answer (Any P xs) (All (λ x. ¬ P x) xs)

-- the entry behind which a reservation waits, if it waits
abbrev pub behind_of : Held → Option ℕ
behind_of h = option_map (λ w. w.behind) h.waits

-- what is held now, by a load and what it waits for: the excess while it waits, else the whole load
abbrev pub share_now : ℕ → Option Waits → ℕ
share_now load None = load
share_now load (Some w) = w.excess

abbrev pub held_now : Held → ℕ
held_now h = share_now h.load h.waits

-- what is held at a slot, by a load and what it waits for: the excess before the start, the whole load from there on
abbrev pub share_at : ℕ → ℕ → Option Waits → ℕ
share_at slot load None = load
share_at slot load (Some w) = if nat_lt slot w.start then w.excess else load

-- and nothing from the reservation's end on
abbrev pub held_at : ℕ → Held → ℕ
held_at slot h = if is_before_end slot h.end then share_at slot h.load h.waits else 0

-- g hands its slots over to a reservation of that load that waits so: it is the entry behind which that one waits, it
-- has started, it ends where that one starts, and its load makes up for what that one's load has over its excess
pub record HandsOver (load : ℕ) (w : Waits) (g : Held) : Type 0 where
  pub named : w.behind ≡ g.entry
  pub started : g.waits ≡ None
  pub ends : g.end ≡ Some w.start
  pub covered : load ≤ w.excess + g.load

-- what is still waited for at a slot: from the start on, nothing
abbrev pub waits_at : ℕ → Option Waits → Option Waits
waits_at slot None = None
waits_at slot (Some w) = if nat_lt slot w.start then Some w else None

-- the reservation at a slot
abbrev pub started_at : ℕ → Held → Held
started_at slot h = record h { waits = waits_at slot h.waits }
