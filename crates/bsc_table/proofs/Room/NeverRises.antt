-- What is reserved from now on never rises: what a message gains at its start, the one that it waited behind has lost
-- there.
use Rattle.std.proofs.Common.{◌≡◌, ℕ, ◌+◌, ◌-◌, ◌≤◌, ◌<◌, ◌==◌, Bool, true, false, cond, ◌&&◌, Option, Some, None, List}
use Rattle.std.proofs.Common.{get_or, sum_by, refl, sym, ap, subst, ◌∙◌, inl, inr, arith}
use Rattle.std.specs.Prelude.{nat_lt}
use Rattle.std.specs.List.{All, AllPairs}
use Rattle.std.proofs.lemmas.Bool.{cases_Bool, cases_lt, and_parts, and_from, ltb-true, lt-ltb, eqb-true, eq-eqb}
use Rattle.std.proofs.lemmas.Bool.{false≢true}
use Rattle.admission.specs.Reservation.{IsBeforeEnd, is_before_end}
use Rattle.admission.proofs.Matched.{matched, sum_by-member, sum_by-plus, sum_by-same}
use Rattle.admission.proofs.Reservations.{is_before_end-says, is_before_end-from}
use Rattle.bsc_table.specs.Claim.{Claim, is_claimed_at, claim_at, end_of, own_load, IsWaiting}
use Rattle.bsc_table.specs.Room.{HandsOverTo, AreInOrder, ReservedNeverRises}
use Rattle.bsc_table.proofs.Room.Claims.{is_claimed_at-says, IsBeforeEnd-sooner, claim_at-reserved, claim_at-free}
use Rattle.bsc_table.proofs.Room.Claims.{share_at-waiting, share_at-started, claim_at-after}

-- w waits at the slot behind the message of that number
abbrev is_behind : Option ℕ → ℕ → Bool
is_behind None entry = false
is_behind (Some behind) entry = behind == entry

abbrev waits_for : ℕ → Claim → Claim → Bool
waits_for now w p = (nat_lt now w.message.start && is_before_end now (end_of w.message)) && is_behind w.behind
    p.message.entry

is_behind-says : (behind : Option ℕ) (entry : ℕ) → is_behind behind entry ≡ true → behind ≡ Some entry
is_behind-says None entry h = absurd (false≢true h)
is_behind-says (Some k) entry h = ap (λ (n : ℕ). Some n) (eqb-true k entry h)

is_behind-from : (behind : Option ℕ) (entry : ℕ) → behind ≡ Some entry → is_behind behind entry ≡ true
is_behind-from behind entry h =
    ap (λ (o : Option ℕ). is_behind o entry) h ∙ eq-eqb entry entry refl

waits_for-says : (now : ℕ) (w p : Claim) → waits_for now w p ≡ true → IsWaiting now w
    × (w.behind ≡ Some p.message.entry)
waits_for-says now w p h =
    let first = and_parts (nat_lt now w.message.start && is_before_end now (end_of w.message))
    (is_behind w.behind p.message.entry) h in
    let second = and_parts (nat_lt now w.message.start) (is_before_end now (end_of w.message)) first.0 in (
      (ltb-true now w.message.start second.0, is_before_end-says now (end_of w.message) second.1),
      is_behind-says
          w.behind p.message.entry first.1,
    )

waits_for-from : (now : ℕ) (w p : Claim) → IsWaiting now w → w.behind ≡ Some p.message.entry → waits_for now w p ≡ true
waits_for-from now w p waiting named =
    and_from (nat_lt now w.message.start && is_before_end now (end_of w.message)) (is_behind w.behind p.message.entry)
    (and_from (nat_lt now w.message.start) (is_before_end now (end_of w.message))
    (lt-ltb now w.message.start waiting.0) (is_before_end-from now (end_of w.message) waiting.1))
    (is_behind-from w.behind p.message.entry named)

-- what one loses between two slots, and what it gains
abbrev loss : ℕ → ℕ → Claim → ℕ
loss t u c = claim_at t c - claim_at u c

abbrev gain : ℕ → ℕ → Claim → ℕ
gain t u c = claim_at u c - claim_at t c

-- the one that hands over loses its own load
loses_all : (t u : ℕ) (p w : Claim) → HandsOverTo p w → w.accepted ≤ t → t < w.message.start → w.message.start ≤ u
    → loss t u p ≡ own_load p.message
loses_all t u p w over accepted before after =
    let gone = claim_at-after u w.message.start p over.ends after in
    let Stands : Option ℕ → Type 0 = λ end. IsBeforeEnd t end in
    let stands : IsBeforeEnd t (end_of p.message) = subst Stands (sym over.ends) before in
    let here = claim_at-reserved t p (omega (arith, over.there), stands) in
    let own = share_at-started t p (omega (arith, over.started)) in
    omega (arith, gone, here, own)

-- each gain is covered by the losses of those that it waits for
covered : (claims : List Claim) (now t u : ℕ) → AreInOrder claims now → now ≤ t → t ≤ u
    → All (λ w. gain t u w ≤ sum_by (λ p. cond (waits_for now w p) (loss t u p) 0) claims) claims
covered claims now t u order from later = λ k d within.
    let w : Claim = get_or claims k d in
    let total : ℕ = sum_by (λ p. cond (waits_for now w p) (loss t u p) 0) claims in
    let accepted : w.accepted ≤ now = order.accepted k d within in
    elim (cases_Bool (is_claimed_at u w)) [
      | inr free ↦ omega (arith, claim_at-free u w free)
      | inl reserved ↦
          let fact = is_claimed_at-says u w reserved in
          let at_u = claim_at-reserved u w fact in
          let at_t = claim_at-reserved t w (omega arith, IsBeforeEnd-sooner t u (end_of w.message) later fact.1) in
          elim (cases_lt t w.message.start) [
            | inr started ↦
                omega (arith, at_u, at_t, share_at-started t w started, share_at-started u w (omega arith))
            | inl waits ↦ elim (cases_lt u w.message.start) [
              | inl still ↦ omega (arith, at_u, at_t, share_at-waiting t w waits, share_at-waiting u w still)
              | inr starts ↦
                  let waiting : IsWaiting now w = (
                    omega arith,
                    IsBeforeEnd-sooner now u (end_of w.message)
                        (omega arith) fact.1,
                  ) in
                  let found = order.handed k d within waiting in
                  let p : Claim = found.1 in
                  let over : HandsOverTo p w = found.4 in
                  let term : Claim → ℕ = λ x. cond (waits_for now w x) (loss t u x) 0 in
                  let member = sum_by-member term claims found.0 p found.2 in
                  let there = ap term found.3 in
                  let its = ap (λ (b : Bool). cond b (loss t u p) 0) (waits_for-from now w p waiting over.named) in
                  let all = loses_all t u p w over (omega arith) waits starts in
                  omega (
                    arith,
                    at_u,
                    at_t,
                    share_at-waiting t w waits,
                    share_at-started u w starts,
                    over.covered,
                    member,
                    there,
                    its,
                    all,
                  )
            ]
          ]
    ]

-- and each loss covers one gain
once : (claims : List Claim) (now : ℕ) → AreInOrder claims now
    → All (λ p. AllPairs (λ v w. waits_for now v p ≡ true → waits_for now w p ≡ true → ⊥) claims) claims
once claims now order = λ k d within. λ i j e before inside. λ first second.
    let p : Claim = get_or claims k d in
    let v = waits_for-says now (get_or claims i e) p first in
    let w = waits_for-says now (get_or claims j e) p second in
    order.alone i j e before inside v.0 w.0 (v.1 ∙ sym w.1)

-- of claims in order, what is reserved never rises from now on
pub reserved_never_rises : ReservedNeverRises
reserved_never_rises claims now t u order from later =
    let gains = matched (gain t u) (loss t u) (waits_for now) claims (covered claims now t u order from later)
    (once claims now order) in
    let after = sum_by-plus (claim_at u) (loss t u) claims in
    let before = sum_by-plus (claim_at t) (gain t u) claims in
    let both = sum_by-same (λ c. claim_at u c + loss t u c) (λ c. claim_at t c + gain t u c) claims
    (λ c. either (claim_at u c) (claim_at t c)) in
    omega (arith, gains, after, before, both)
  where
    either : (a b : ℕ) → a + (b - a) ≡ b + (a - b)
    either a b = omega arith
