-- A live message is stopped: the claims stay in order, and none reserves more.
use Rattle.std.proofs.Common.{◌≡◌, ◌≢◌, ℕ, ◌+◌, ◌*◌, ◌≤◌, ◌<◌, ◌==◌, ◌||◌, ◌&&◌, Bool, true, false, not, Option, Some}
use Rattle.std.proofs.Common.{None, is_some, List, [], ◌∷◌, map, get_or, sum_by, refl, sym, ap, ◌∙◌, inl, inr, arith}
use Rattle.std.specs.Prelude.{nat_lt}
use Rattle.std.specs.List.{All}
use Rattle.std.proofs.lemmas.Bool.{cases_Bool, cases_eq, or_cases, and_parts, ltb-true, eqb-true, eq-eqb, ne_eqb}
use Rattle.std.proofs.lemmas.Bool.{false≢true}
use Rattle.std.proofs.lemmas.List.Sums.{sum_by-cons}
use Rattle.admission.specs.Reservation.{IsBeforeEnd, natural_end, end_of_stopped, end_of_reservation}
use Rattle.admission.proofs.Matched.{sum_by-le_all}
use Rattle.admission.proofs.Reservations.{end_of_stopped-no_later, end_of_stopped-early}
use Rattle.scheduler.specs.Message.{ScheduledMessage, stopped_if}
use Rattle.bsc_table.specs.Claim.{Claim, is_claimed_at, claim_at, end_of, IsWaiting, stop_claim, stop_claims}
use Rattle.bsc_table.specs.Record.{is_live}
use Rattle.bsc_table.specs.Room.{AreInOrder, ClaimsFit}
use Rattle.bsc_table.proofs.Room.Claims.{is_claimed_at-says, IsBeforeEnd-sooner, claim_at-reserved, claim_at-free}

-- later on, claims stay in order
pub in_order-later : (claims : List Claim) (now later : ℕ) → now ≤ later → AreInOrder claims now
    → AreInOrder claims later
in_order-later claims now later le order =
    let sooner : (w : Claim) → IsWaiting later w → IsWaiting now w = λ w waiting.
    (omega (arith, waiting.0), IsBeforeEnd-sooner now later (end_of w.message) le waiting.1) in
    record {
      rising = order.rising;
      accepted = λ k d h. omega (arith, order.accepted k d h);
      forward = order.forward;
      periods = order.periods;
      handed = λ k d h. λ waiting. order.handed k d h (sooner (get_or claims k d) waiting);
      alone = λ i j d b w. λ first second. order.alone i j d b w (sooner (get_or claims i d) first)
          (sooner (get_or claims j d) second);
    }

-- what a live message is
pub standing_of : (slot : ℕ) (m : ScheduledMessage) → is_live slot m ≡ true → m.stop ≡ None
standing_of slot m live =
    none m.stop (and_parts (not (is_some m.stop)) ((m.broadcasts == 0) || nat_lt slot
    (m.start + m.broadcasts * m.period)) live).0
  where
    none : (stop : Option ℕ) → not (is_some stop) ≡ true → stop ≡ None
    none None h = refl
    none (Some s) h = absurd (false≢true h)

-- what has a stop within the time that it stands is reserved no longer than without
unstopped : (start period broadcasts stop slot : ℕ) → 0 < period
    → ((broadcasts == 0) || nat_lt stop (start + broadcasts * period)) ≡ true → slot < end_of_stopped start period stop
    → IsBeforeEnd slot (natural_end start period broadcasts)
unstopped start period broadcasts stop slot some live before =
    elim (cases_eq broadcasts 0) [
      | inl always ↦ rw (eq-eqb broadcasts 0 always) tt
      | inr few ↦
          let stands : stop < start + broadcasts * period = elim
          (or_cases (broadcasts == 0) (nat_lt stop (start + broadcasts * period)) live) [
            | inl never ↦ absurd (few (eqb-true broadcasts 0 never))
            | inr below ↦ ltb-true stop (start + broadcasts * period) below
          ] in
          let sooner = end_of_stopped-no_later start period broadcasts stop some (omega arith) in
          rw (ne_eqb broadcasts 0 few) (omega arith)
    ]

unstopped_live : (start period broadcasts now slot : ℕ) (stop : Option ℕ) → 0 < period
    → (not (is_some stop) && ((broadcasts == 0) || nat_lt now (start + broadcasts * period))) ≡ true
    → slot < end_of_stopped start period now → IsBeforeEnd slot (end_of_reservation start period broadcasts stop)
unstopped_live start period broadcasts now slot None some live before =
    unstopped start period broadcasts now slot some live before
unstopped_live start period broadcasts now slot (Some stop) some live before = absurd (false≢true live)

-- the stop of a live message never makes its reservation end later
stopped_sooner : (m : ScheduledMessage) (says : Bool) (now slot : ℕ) → 0 < m.period
    → (says ≡ true → is_live now m ≡ true)
    → IsBeforeEnd slot (end_of (stopped_if says now m)) → IsBeforeEnd slot (end_of m)
stopped_sooner m false now slot some live before = before
stopped_sooner m true now slot some live before =
    unstopped_live m.start m.period m.broadcasts now slot m.stop some (live refl) before

claim_at-stopped : (c : Claim) (entry now slot : ℕ) → 0 < c.message.period
    → (c.message.entry ≡ entry → is_live now c.message ≡ true)
    → claim_at slot (stop_claim entry now c) ≤ claim_at slot c
claim_at-stopped c entry now slot some live =
    let after : Claim = stop_claim entry now c in
    elim (cases_Bool (is_claimed_at slot after)) [
      | inr free ↦ omega (arith, claim_at-free slot after free)
      | inl reserved ↦
          let fact = is_claimed_at-says slot after reserved in
          let stands = stopped_sooner c.message (c.message.entry == entry) now slot some
          (λ same. live (eqb-true c.message.entry entry same)) fact.1 in
          let first = claim_at-reserved slot after fact in
          let second = claim_at-reserved slot c (fact.0, stands) in
          omega (arith, first, second)
    ]

sum_by-map : {X Y : Type 0} (f : Y → ℕ) (g : X → Y) (xs : List X) → sum_by f (map g xs) ≡ sum_by (λ x. f (g x)) xs
sum_by-map f g [] = refl
sum_by-map f g (x ∷ xs) =
    sum_by-cons f (g x) (map g xs) ∙ (ap (λ n. f (g x) + n) (sum_by-map f g xs) ∙ sym (sum_by-cons (λ y. f (g y)) x xs))

-- claims that fit still do once a live message is stopped
pub ClaimsFit-stop : (claims : List Claim) (entry now : ℕ) → All (λ c. 0 < c.message.period) claims
    → All (λ c. c.message.entry ≡ entry → is_live now c.message ≡ true) claims → ClaimsFit claims
    → ClaimsFit (stop_claims entry now claims)
ClaimsFit-stop claims entry now periods live fit = λ slot.
    let less = sum_by-le_all (λ c. claim_at slot (stop_claim entry now c)) (claim_at slot) claims
    (λ k d h. claim_at-stopped (get_or claims k d) entry now slot (periods k d h) (live k d h)) in
    omega (arith, less, sum_by-map (claim_at slot) (stop_claim entry now) claims, fit slot)

-- of the stopped message nothing is reserved where it waits
pub waits_on : (now entry : ℕ) (c : Claim) → 0 < c.message.period → IsWaiting now (stop_claim entry now c)
    → (c.message.entry ≢ entry) × IsWaiting now c
waits_on now entry c some waiting =
    elim (cases_eq c.message.entry entry) [
      | inl same ↦ absurd (stopped_one (c.message.entry == entry) (eq-eqb c.message.entry entry same) waiting)
      | inr apart ↦ (apart, as_it_was (c.message.entry == entry) (ne_eqb c.message.entry entry apart) waiting)
    ]
  where
    stopped_one : (says : Bool) → says ≡ true → IsWaiting now (record c { message = stopped_if says now c.message }) → ⊥
    stopped_one true says waits =
        let ends = end_of_stopped-early c.message.start c.message.period now some (omega (arith, waits.0)) in
        omega (arith, ends, waits.1)
    stopped_one false says waits = false≢true says

    as_it_was : (says : Bool) → says ≡ false → IsWaiting now (record c { message = stopped_if says now c.message })
        → IsWaiting now c
    as_it_was true says waits = absurd (false≢true (sym says))
    as_it_was false says waits = waits

-- the others are as they were
pub stop_claim-other : (entry now : ℕ) (c : Claim) → c.message.entry ≢ entry → stop_claim entry now c ≡ c
stop_claim-other entry now c apart =
    ap (λ (b : Bool). record c { message = stopped_if b now c.message }) (ne_eqb c.message.entry entry apart)
