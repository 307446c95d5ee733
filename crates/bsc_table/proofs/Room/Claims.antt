-- Claims, slot by slot.
use Rattle.std.proofs.Common.{◌≡◌, ℕ, ◌≤◌, ◌<◌, Bool, true, false, cond, ◌&&◌, Option, Some, None, refl, ap, ◌∙◌, inl}
use Rattle.std.proofs.Common.{inr, arith}
use Rattle.std.specs.Prelude.{nat_lt, nat_le}
use Rattle.std.proofs.lemmas.Bool.{cases_Bool, and_parts, and_from, leb-true, le-leb, lt-ltb, le-ltb}
use Rattle.admission.specs.Reservation.{IsBeforeEnd, is_before_end}
use Rattle.admission.proofs.Reservations.{is_before_end-says, is_before_end-from}
use Rattle.bsc_table.specs.Claim.{Claim, IsClaimedAt, is_claimed_at, claim_share_at, claim_at, end_of, own_load}

-- what passes the test is claimed
pub is_claimed_at-says : (slot : ℕ) (c : Claim) → is_claimed_at slot c ≡ true → IsClaimedAt c slot
is_claimed_at-says slot c h =
    let parts = and_parts (nat_le c.accepted slot) (is_before_end slot (end_of c.message)) h in
    (leb-true c.accepted slot parts.0, is_before_end-says slot (end_of c.message) parts.1)

-- and what is claimed passes it
pub is_claimed_at-from : (slot : ℕ) (c : Claim) → IsClaimedAt c slot → is_claimed_at slot c ≡ true
is_claimed_at-from slot c h =
    and_from (nat_le c.accepted slot) (is_before_end slot (end_of c.message)) (le-leb c.accepted slot h.0)
    (is_before_end-from slot (end_of c.message) h.1)

-- a slot before one that is before an end is so, too
pub IsBeforeEnd-sooner : (sooner slot : ℕ) (end : Option ℕ) → sooner ≤ slot → IsBeforeEnd slot end
    → IsBeforeEnd sooner end
IsBeforeEnd-sooner sooner slot None le h = tt
IsBeforeEnd-sooner sooner slot (Some end) le h = omega arith

-- a claim that is reserved at a slot takes its share of it
pub claim_at-reserved : (slot : ℕ) (c : Claim) → IsClaimedAt c slot → claim_at slot c ≡ claim_share_at slot c
claim_at-reserved slot c h =
    ap (λ (b : Bool). cond b (claim_share_at slot c) 0) (is_claimed_at-from slot c h)

-- and another one takes nothing
pub claim_at-free : (slot : ℕ) (c : Claim) → is_claimed_at slot c ≡ false → claim_at slot c ≡ 0
claim_at-free slot c h = ap (λ (b : Bool). cond b (claim_share_at slot c) 0) h

-- up to its start its share is its excess
pub share_at-waiting : (slot : ℕ) (c : Claim) → slot < c.message.start → claim_share_at slot c ≡ c.excess
share_at-waiting slot c h =
    ap (λ (b : Bool). cond b c.excess (own_load c.message)) (lt-ltb slot c.message.start h)

-- from its start on its share is its load
pub share_at-started : (slot : ℕ) (c : Claim) → c.message.start ≤ slot → claim_share_at slot c ≡ own_load c.message
share_at-started slot c h =
    ap (λ (b : Bool). cond b c.excess (own_load c.message)) (le-ltb slot c.message.start h)

-- nothing before its acceptance
pub claim_at-before : (slot : ℕ) (c : Claim) → slot < c.accepted → claim_at slot c ≡ 0
claim_at-before slot c h =
    elim (cases_Bool (is_claimed_at slot c)) [
      | inl reserved ↦ absurd (omega (arith, (is_claimed_at-says slot c reserved).0))
      | inr free ↦ claim_at-free slot c free
    ]

-- nor from its end on
pub claim_at-after : (slot end : ℕ) (c : Claim) → end_of c.message ≡ Some end → end ≤ slot → claim_at slot c ≡ 0
claim_at-after slot end c ends h =
    let P = λ (o : Option ℕ). cond (nat_le c.accepted slot && is_before_end slot o) (claim_share_at slot c) 0 in
    ap P ends ∙ never (nat_le c.accepted slot) (nat_lt slot end) (le-ltb slot end h)
  where
    never : (a b : Bool) → b ≡ false → cond (a && b) (claim_share_at slot c) 0 ≡ 0
    never true b over = ap (λ (x : Bool). cond x (claim_share_at slot c) 0) over
    never false b over = refl
