-- A message that a write adds, as it begins (own): at once, or behind the one from which it takes over.
use Rattle.std.specs.Prelude.{◌≡◌, ◌⊎◌, ℕ, ◌+◌, ◌<◌, ◌≤◌, Option, Some, None, List, length, filter}
use Rattle.admission.specs.declared.measure.TheConstants.{SCALE}
use Rattle.admission.specs.Table.{max_reserved}
use Rattle.scheduler.specs.Air.{layer}
use Rattle.bsc_table.specs.Claim.{own_load, is_claimed_at, claimed_at}
use Rattle.bsc_table.specs.Handover.{Place, handover, IsPlacedAt}
use Rattle.bsc_table.specs.Record.{Accepted, claim_of, claims_of}

-- it starts at its slot, beside claims that leave its load room, unless it is background
pub record StartsNow (slot : ℕ) (before : List Accepted) (a : Accepted) : Type 0 where
  pub start : a.message.start ≡ slot
  pub behind : a.behind ≡ None
  pub fits : layer a.message ≡ 0 → claimed_at (claims_of before) slot + own_load a.message ≤ SCALE

-- it starts later, at the place that the old message leaves it, beside claims, that one's stopped, that leave its
-- excess room. Neither is background
pub record TakesOver (slot : ℕ) (old : Accepted) (before : List Accepted) (a : Accepted) : Type 0 where
  pub place : Place
  pub over : handover (claims_of before) slot (claim_of old) (own_load a.message) ≡ Some place
  pub placed : IsPlacedAt place (claim_of a)
  pub of_reserved : layer old.message ≡ 0
  pub reserved : layer a.message ≡ 0
  pub fits : claimed_at (claims_of before) slot + place.excess ≤ SCALE

abbrev pub Starts : ℕ → Option Accepted → List Accepted → Accepted → Type 0
Starts slot None before a = StartsNow slot before a
Starts slot (Some old) before a = StartsNow slot before a ⊎ TakesOver slot old before a

-- a message that may be accepted at the slot beside those accepted before, among which the one that it replaces, if it
-- does, is stopped: it has a page and a period, and there is a place and room for it, unless it is background
pub record IsBegun (entry slot : ℕ) (replaced : Option Accepted) (before : List Accepted) (a : Accepted) : Type 0 where
  pub numbered : a.message.entry ≡ entry
  pub accepted : a.accepted ≡ slot
  pub standing : a.message.stop ≡ None
  pub some_pages : 0 < a.message.pages
  pub some_period : 0 < a.message.period
  pub room : layer a.message ≡ 0 → length (filter (is_claimed_at slot) (claims_of before)) < max_reserved
  pub starts : Starts slot replaced before a
