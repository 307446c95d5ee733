-- Whose slots a replacement may take over, and from when (own).
use Rattle.std.specs.Prelude.{◌≡◌, ℕ, ◌-◌, ◌==◌, nat_le, nat_lt, if◌then◌else◌, Option, Some, None, List, find}
use Rattle.bsc_table.specs.Claim.{Claim, end_of, own_load}

-- the message behind which a new one waits, the slot at which it starts, and what it reserves until then
pub record Place : Type 0 where
  pub behind : ℕ
  pub start : ℕ
  pub excess : ℕ

-- the number of the message that stands before one that replaces the old one at the slot: the old one, where it has
-- started; else the one behind which the old one waits
abbrev pub ahead_of : ℕ → Claim → Option ℕ
ahead_of slot old = if nat_le old.message.start slot then Some old.message.entry else old.behind

abbrev pub numbered : Option ℕ → List Claim → Option Claim
numbered None claims = None
numbered (Some entry) claims = find (λ c. c.message.entry == entry) claims

-- behind that message from the slot up to its end, if that is later than the slot
abbrev pub place_before : ℕ → ℕ → Claim → Option ℕ → Option Place
place_before slot load p None = None
place_before slot load p (Some end) =
    if nat_lt slot end then Some (record {
      behind = p.message.entry;
      start = end;
      excess = load - own_load p.message;
    }) else None

abbrev pub place_behind : ℕ → ℕ → Option Claim → Option Place
place_behind slot load None = None
place_behind slot load (Some p) = place_before slot load p (end_of p.message)

-- the place that a replacement of the old message may take over at the slot, in claims in which the old one is stopped
abbrev pub handover : List Claim → ℕ → Claim → ℕ → Option Place
handover claims slot old load = place_behind slot load (numbered (ahead_of slot old) claims)

-- the claim is at that place
pub record IsPlacedAt (place : Place) (c : Claim) : Type 0 where
  pub behind : c.behind ≡ Some place.behind
  pub start : c.message.start ≡ place.start
  pub excess : c.excess ≡ place.excess
