-- Room at every slot, where messages may wait behind others (own).
use Rattle.std.specs.Prelude.{◌≡◌, ◌≢◌, ℕ, ◌+◌, ◌<◌, ◌≤◌, true, Some, None, is_some, List, [], ◌∷◌, ◌++◌, All, Any}
use Rattle.std.specs.Prelude.{AllPairs, Contains}
use Rattle.admission.specs.declared.measure.TheConstants.{SCALE}
use Rattle.bsc_table.specs.Claim.{Claim, end_of, own_load, claimed_at, IsWaiting, stop_claims}
use Rattle.bsc_table.specs.Record.{is_live}
use Rattle.bsc_table.specs.Handover.{Place, handover, IsPlacedAt}

-- p hands its slots over to w: p had started when w was accepted, p is stopped, p's reservation ends where w starts,
-- and until then w reserves what its load has over p's
pub record HandsOverTo (p w : Claim) : Type 0 where
  pub named : w.behind ≡ Some p.message.entry
  pub there : p.accepted ≤ w.accepted
  pub started : p.message.start ≤ w.accepted
  pub stopped : is_some p.message.stop ≡ true
  pub ends : end_of p.message ≡ Some w.message.start
  pub covered : own_load w.message ≤ w.excess + own_load p.message

-- claims in order at a slot: all were accepted by then and start no sooner than they were accepted, each has a
-- period, each that waits, waits behind one that hands over to it, and no two wait behind the same
pub record AreInOrder (claims : List Claim) (now : ℕ) : Type 0 where
  pub rising : AllPairs (λ a b. a.message.entry < b.message.entry) claims
  pub accepted : All (λ c. c.accepted ≤ now) claims
  pub forward : All (λ c. c.accepted ≤ c.message.start) claims
  pub periods : All (λ c. 0 < c.message.period) claims
  pub handed : All (λ w. IsWaiting now w → Any (λ p. HandsOverTo p w) claims) claims
  pub alone : AllPairs (λ v w. IsWaiting now v → IsWaiting now w → v.behind ≢ w.behind) claims

-- from now on the loads reserved never rise
abbrev pub ReservedNeverRises : Type 0
ReservedNeverRises = (claims : List Claim) (now t u : ℕ)
    → AreInOrder claims now
    → now ≤ t
    → t ≤ u
    → claimed_at claims u ≤ claimed_at claims t

-- at each slot the loads that are reserved sum to at most SCALE
abbrev pub ClaimsFit : List Claim → Type 0
ClaimsFit claims = (slot : ℕ) → claimed_at claims slot ≤ SCALE

-- a stop of a live message keeps the order, and the room
abbrev pub StopKeepsRoom : Type 0
StopKeepsRoom = (claims : List Claim) (entry now : ℕ)
    → AreInOrder claims now
    → All (λ c. c.message.entry ≡ entry → is_live now c.message ≡ true) claims
    → ClaimsFit claims
    → AreInOrder (stop_claims entry now claims) now × ClaimsFit (stop_claims entry now claims)

-- a message that is accepted at the slot, with a number above the others
pub record IsNew (claims : List Claim) (now : ℕ) (c : Claim) : Type 0 where
  pub accepted : c.accepted ≡ now
  pub greatest : All (λ other. other.message.entry < c.message.entry) claims
  pub period : 0 < c.message.period
  pub standing : c.message.stop ≡ None

-- so does one that starts at once beside loads that leave it room
abbrev pub StartKeepsRoom : Type 0
StartKeepsRoom = (claims : List Claim) (now : ℕ) (c : Claim)
    → AreInOrder claims now
    → ClaimsFit claims
    → IsNew claims now c
    → c.message.start ≡ now
    → claimed_at claims now + own_load c.message ≤ SCALE
    → AreInOrder (claims ++ c ∷ []) now × ClaimsFit (claims ++ c ∷ [])

-- and one that takes over from a live message, where its excess has room once that one is stopped
abbrev pub TakeoverKeepsRoom : Type 0
TakeoverKeepsRoom = (claims : List Claim) (now : ℕ) (old c : Claim) (place : Place)
    → AreInOrder claims now
    → ClaimsFit claims
    → Contains claims old
    → is_live now old.message ≡ true
    → handover (stop_claims old.message.entry now claims) now old (own_load c.message) ≡ Some place
    → IsNew (stop_claims old.message.entry now claims) now c
    → IsPlacedAt place c
    → claimed_at (stop_claims old.message.entry now claims) now + place.excess ≤ SCALE
    → AreInOrder (stop_claims old.message.entry now claims ++ c ∷ []) now
    × ClaimsFit (stop_claims old.message.entry now claims ++ c ∷ [])

-- one that takes over from a waiting message can do so, and starts where that one would have
abbrev pub WaitingPassesItsStart : Type 0
WaitingPassesItsStart = (claims : List Claim) (now load : ℕ) (old : Claim)
    → AreInOrder claims now
    → Contains claims old
    → is_live now old.message ≡ true
    → now < old.message.start
    → (place : Place) × (handover (stop_claims old.message.entry now claims) now old load ≡ Some place)
    × (place.start ≡ old.message.start)
