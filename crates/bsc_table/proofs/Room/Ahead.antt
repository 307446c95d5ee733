-- The message behind which one waits that takes over: it has started, it is stopped, and no other waits behind it.
use Rattle.std.proofs.Common.{◌≡◌, ℕ, zero, suc, ◌+◌, ◌-◌, ◌*◌, ◌<◌, ◌==◌, ◌||◌, Bool, true, false, cond, not, Option}
use Rattle.std.proofs.Common.{Some, None, is_some, List, [], ◌∷◌, length, get_or, refl, sym, ap, subst, ◌∙◌, inl, inr}
use Rattle.std.proofs.Common.{arith}
use Rattle.std.specs.Prelude.{nat_lt}
use Rattle.std.specs.List.{All, AllPairs, Contains, find}
use Rattle.std.proofs.lemmas.Bool.{cases_lt, cases_Bool, cases_eq, and_parts, or_cases, eqb-true, eq-eqb, ne_eqb}
use Rattle.std.proofs.lemmas.Bool.{ltb-true, lt-ltb, le-ltb}
use Rattle.std.proofs.lemmas.Option.{none-some, same_Some}
use Rattle.std.proofs.lemmas.List.{get_or-map, length-map, get_or_default}
use Rattle.admission.specs.Reservation.{IsBeforeEnd, natural_end, end_of_reservation}
use Rattle.scheduler.specs.Message.{ScheduledMessage}
use Rattle.scheduler.proofs.Lists.{rising-same}
use Rattle.bsc_table.specs.Claim.{Claim, end_of, own_load, stop_claim, stop_claims}
use Rattle.bsc_table.specs.Record.{is_live}
use Rattle.bsc_table.specs.Handover.{Place, numbered, place_before, place_behind}
use Rattle.bsc_table.proofs.Room.StoppedClaims.{standing_of}

-- what a look-up finds
pub find-says : (p : Claim → Bool) (claims : List Claim) (c : Claim) → find p claims ≡ Some c → Contains claims c
    × (p c ≡ true)
find-says p [] c e = absurd (none-some c e)
find-says p (x ∷ claims) c e =
    elim (cases_Bool (p x)) [
      | inl passes ↦
          let found = rw passes at e in
          let here : x ≡ c = cc in
          let Passes : Claim → Type 0 = λ y. p y ≡ true in
          ((0, omega arith, here), subst Passes here passes)
      | inr fails ↦
          let rest = find-says p claims c (rw fails at e) in
          ((suc rest.0.0, omega (arith, rest.0.1), rest.0.2), rest.1)
    ]

-- if nothing is found, all fail the test
pub find-none : (p : Claim → Bool) (claims : List Claim) → find p claims ≡ None → All (λ c. p c ≡ false) claims
find-none p [] e = λ k d h. absurd (omega arith)
find-none p (x ∷ claims) e =
    elim (cases_Bool (p x)) [
      | inl passes ↦ let found = rw passes at e in absurd (none-some x (sym found))
      | inr fails ↦ cons fails (find-none p claims (rw fails at e))
    ]
  where
    cons : p x ≡ false → All (λ c. p c ≡ false) claims → All (λ c. p c ≡ false) (x ∷ claims)
    cons first rest zero d h = first
    cons first rest (suc k) d h = rest k d (omega arith)

-- the place that is taken over, and the message whose it is
pub record Taken (claims : List Claim) (now load : ℕ) (ahead : Option ℕ) (place : Place) : Type 0 where
  pub p : Claim
  pub there : Contains claims p
  pub entry : ahead ≡ Some p.message.entry
  pub named : place.behind ≡ p.message.entry
  pub ends : end_of p.message ≡ Some place.start
  pub later : now < place.start
  pub excess : place.excess ≡ load - own_load p.message

taken_before : (claims : List Claim) (now load : ℕ) (ahead : Option ℕ) (place : Place) (p : Claim) → Contains claims p
    → ahead ≡ Some p.message.entry → (end : Option ℕ) → end_of p.message ≡ end
    → place_before now load p end ≡ Some place → Taken claims now load ahead place
taken_before claims now load ahead place p there entry None ends e = absurd (none-some place e)
taken_before claims now load ahead place p there entry (Some end) ends e =
    let found : Place = record { behind = p.message.entry; start = end; excess = load - own_load p.message } in
    let at : Bool → Option Place = λ b. cond b (Some found) None in
    elim (cases_lt now end) [
      | inr over ↦ absurd (none-some place (sym (ap at (le-ltb now end over)) ∙ e))
      | inl before ↦
          let same : Some found ≡ Some place = sym (ap at (lt-ltb now end before)) ∙ e in
          let its : found ≡ place = same_Some found place same in
          let start : end ≡ place.start = ap (λ (x : Place). x.start) its in
          record {
            p = p;
            there = there;
            entry = entry;
            named = sym (ap (λ (x : Place). x.behind) its);
            ends = ends ∙ ap (λ (n : ℕ). Some n) start;
            later = omega arith;
            excess = sym (ap (λ (x : Place). x.excess) its);
          }
    ]

taken_of : (claims : List Claim) (now load n : ℕ) (place : Place) (found : Option Claim)
    → find (λ c. c.message.entry == n) claims ≡ found → place_behind now load found ≡ Some place
    → Taken claims now load (Some n) place
taken_of claims now load n place None e taken = absurd (none-some place taken)
taken_of claims now load n place (Some p) e taken =
    let says = find-says (λ c. c.message.entry == n) claims p e in
    let same : p.message.entry ≡ n = eqb-true p.message.entry n says.1 in
    taken_before claims now load (Some n) place p says.0 (ap (λ (k : ℕ). Some k) (sym same)) (end_of p.message) refl
    taken

-- a place that is found is that of a claim ahead
pub taken : (claims : List Claim) (now load : ℕ) (ahead : Option ℕ) (place : Place)
    → place_behind now load (numbered ahead claims) ≡ Some place → Taken claims now load ahead place
taken claims now load None place e = absurd (none-some place e)
taken claims now load (Some n) place e =
    taken_of claims now load n place (find (λ c. c.message.entry == n) claims) refl e

-- one number, one claim
pub by_number : (claims : List Claim) (a b : Claim) → AllPairs (λ x y. x.message.entry < y.message.entry) claims
    → Contains claims a → Contains claims b → a.message.entry ≡ b.message.entry → a ≡ b
by_number claims a b rising here there same =
    let first : get_or claims here.0 a ≡ a = here.2 in
    let second : get_or claims there.0 a ≡ b = get_or_default claims there.0 a b there.1 ∙ there.2 in
    let numbers = ap (λ (c : Claim). c.message.entry) first ∙ same
    ∙ sym (ap (λ (c : Claim). c.message.entry) second) in
    let place = rising-same (λ (c : Claim). c.message.entry) claims rising here.0 there.0 a here.1 there.1 numbers in
    sym first ∙ ap (λ i. get_or claims i a) place ∙ second

-- what stands among the stopped ones was there before
pub from_stopped : (claims : List Claim) (entry now : ℕ) (p : Claim) → Contains (stop_claims entry now claims) p
    → (c : Claim) × Contains claims c × (p ≡ stop_claim entry now c)
from_stopped claims entry now p there =
    let f = stop_claim entry now in
    let within : there.0 < length claims = omega (arith, there.1, length-map claims f) in
    let c : Claim = get_or claims there.0 p in (
      c,
      (there.0, within, get_or_default claims there.0 c p within),
      sym there.2
          ∙ get_or-map f claims there.0 p p within,
    )

-- a live message is reserved
pub live_before : (now : ℕ) (m : ScheduledMessage) → 0 < m.period → is_live now m ≡ true → IsBeforeEnd now (end_of m)
live_before now m some live =
    let parts = and_parts (not (is_some m.stop)) ((m.broadcasts == 0) || nat_lt now (m.start + m.broadcasts * m.period))
    live in
    let Stands : Option ℕ → Type 0 = λ stop. IsBeforeEnd now (end_of_reservation m.start m.period m.broadcasts stop) in
    subst Stands (sym (standing_of now m live)) (runs parts.1)
  where
    runs : ((m.broadcasts == 0) || nat_lt now (m.start + m.broadcasts * m.period)) ≡ true
        → IsBeforeEnd now (natural_end m.start m.period m.broadcasts)
    runs h =
        elim (cases_eq m.broadcasts 0) [
          | inl always ↦ rw (eq-eqb m.broadcasts 0 always) tt
          | inr few ↦
              let stands : now < m.start + m.broadcasts * m.period = elim
              (or_cases (m.broadcasts == 0) (nat_lt now (m.start + m.broadcasts * m.period)) h) [
                | inl never ↦ absurd (few (eqb-true m.broadcasts 0 never))
                | inr below ↦ ltb-true now (m.start + m.broadcasts * m.period) below
              ] in
              rw (ne_eqb m.broadcasts 0 few) stands
        ]
