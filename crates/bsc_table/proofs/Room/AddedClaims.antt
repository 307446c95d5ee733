-- Claims stay in order, and fit, where a message is added that starts now or waits behind one that hands over.
use Rattle.std.proofs.Common.{◌≡◌, ◌≢◌, ℕ, ◌+◌, ◌≤◌, ◌<◌, List, [], ◌∷◌, ◌++◌, get_or, ◌∙◌, inl, inr, arith}
use Rattle.std.specs.List.{All, Any}
use Rattle.std.proofs.lemmas.Bool.{cases_lt, cases_Bool}
use Rattle.std.proofs.lemmas.List.{get_or_append_left, length_push}
use Rattle.std.proofs.lemmas.List.Elements.{All-push}
use Rattle.std.proofs.lemmas.List.Quantifiers.{all_pairs_push}
use Rattle.std.proofs.lemmas.List.Sums.{sum_by_push}
use Rattle.admission.specs.declared.measure.TheConstants.{SCALE}
use Rattle.bsc_table.specs.Claim.{Claim, IsWaiting, claim_at, claimed_at, is_claimed_at, own_load}
use Rattle.bsc_table.specs.Room.{HandsOverTo, AreInOrder, ClaimsFit, IsNew, StartKeepsRoom}
use Rattle.bsc_table.proofs.Room.Claims.{is_claimed_at-says, claim_at-before, claim_at-free, claim_at-reserved}
use Rattle.bsc_table.proofs.Room.Claims.{share_at-started, share_at-waiting}
use Rattle.bsc_table.proofs.Room.NeverRises.{reserved_never_rises}

Any-left : (P : Claim → Type 0) (claims : List Claim) (c : Claim) → Any P claims → Any P (claims ++ c ∷ [])
Any-left P claims c found = (
  found.0,
  found.1,
  omega (arith, found.2, length_push claims c),
  get_or_append_left claims (c ∷ []) found.1 found.0
      found.2 ∙ found.3,
  found.4,
)

-- claims stay in order with a new one, if another hands over to it alone, or it starts at once
pub in_order-add : (claims : List Claim) (now : ℕ) (c : Claim) → AreInOrder claims now → IsNew claims now c
    → c.accepted ≤ c.message.start → (IsWaiting now c → Any (λ p. HandsOverTo p c) claims)
    → All (λ v. IsWaiting now v → IsWaiting now c → v.behind ≢ c.behind) claims → AreInOrder (claims ++ c ∷ []) now
in_order-add claims now c order new forward handed apart = record {
  rising = all_pairs_push (λ a b. a.message.entry < b.message.entry) claims c order.rising
      (λ k d h. new.greatest k d h);
  accepted = All-push (λ (x : Claim). x.accepted ≤ now) claims c order.accepted (omega (arith, new.accepted));
  forward = All-push (λ (x : Claim). x.accepted ≤ x.message.start) claims c order.forward forward;
  periods = All-push (λ (x : Claim). 0 < x.message.period) claims c order.periods new.period;
  handed = All-push (λ (w : Claim). IsWaiting now w → Any (λ p. HandsOverTo p w) (claims ++ c ∷ [])) claims c
      (λ k d h. λ waiting. Any-left (λ p. HandsOverTo p (get_or claims k d)) claims c (order.handed k d h waiting))
      (λ waiting. Any-left (λ p. HandsOverTo p c) claims c (handed waiting));
  alone = all_pairs_push (λ v w. IsWaiting now v → IsWaiting now w → v.behind ≢ w.behind) claims c order.alone
      (λ k d h. apart k d h);
}

-- they fit on, where what the new one reserves at its acceptance has room
pub ClaimsFit-add : (claims : List Claim) (now : ℕ) (c : Claim) → AreInOrder (claims ++ c ∷ []) now → c.accepted ≡ now
    → claimed_at claims now + claim_at now c ≤ SCALE → ClaimsFit claims → ClaimsFit (claims ++ c ∷ [])
ClaimsFit-add claims now c order accepted room fit = λ slot.
    elim (cases_lt slot now) [
      | inl before ↦
          omega (arith, sum_by_push (claim_at slot) claims c, fit slot, claim_at-before slot c (omega arith))
      | inr after ↦
          let never = reserved_never_rises (claims ++ c ∷ []) now now slot order (omega arith) after in
          omega (arith, sum_by_push (claim_at now) claims c, never, room)
    ]

claim_at-started : (now : ℕ) (c : Claim) → c.message.start ≤ now → claim_at now c ≤ own_load c.message
claim_at-started now c started =
    elim (cases_Bool (is_claimed_at now c)) [
      | inl reserved ↦ omega (
        arith,
        claim_at-reserved now c (is_claimed_at-says now c reserved),
        share_at-started now
            c started,
      )
      | inr free ↦ omega (arith, claim_at-free now c free)
    ]

-- a claim that waits takes its excess at most
pub claim_at-waits : (now : ℕ) (c : Claim) → now < c.message.start → claim_at now c ≤ c.excess
claim_at-waits now c waits =
    elim (cases_Bool (is_claimed_at now c)) [
      | inl reserved ↦ omega (
        arith,
        claim_at-reserved now c (is_claimed_at-says now c reserved),
        share_at-waiting now
            c waits,
      )
      | inr free ↦ omega (arith, claim_at-free now c free)
    ]

-- so a message that starts beside loads that leave it room keeps the order and the room
pub start_keeps_room : StartKeepsRoom
start_keeps_room claims now c order fit new starts room =
    let never : IsWaiting now c → ⊥ = λ waiting. omega (arith, waiting.0) in
    let added = in_order-add claims now c order new (omega (arith, new.accepted)) (λ waiting. absurd (never waiting))
    (λ k d h. λ first second. absurd (never second)) in (
      added,
      ClaimsFit-add claims now c added new.accepted (omega (arith, room, claim_at-started now c (omega arith)))
          fit,
    )
