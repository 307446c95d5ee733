-- What a budget holds of the message behind which one is to wait: its reservation has started and ends where that one
-- starts, and no other waits behind it.
use Rattle.std.proofs.Common.{◌≡◌, ◌≢◌, ℕ, zero, suc, ◌-◌, ◌≤◌, ◌<◌, ◌==◌, Bool, true, false, cond, Option, Some, None}
use Rattle.std.proofs.Common.{List, [], ◌∷◌, filter, get_or, refl, ap, sym, subst, ◌∙◌, inl, inr, arith}
use Rattle.std.specs.List.{All, Any, Contains, find}
use Rattle.std.specs.Option.{option_map}
use Rattle.std.proofs.lemmas.Bool.{cases_Bool, cases_eq, cases_lt, eqb-true, eq-eqb, lt-ltb, false≢true}
use Rattle.std.proofs.lemmas.Option.{none-some, same_Some}
use Rattle.std.proofs.lemmas.List.{length-map, get_or-map, get_or_default}
use Rattle.std.proofs.lemmas.List.Elements.{All-nil, All-cons, All-head, All-tail, All-map, All-filter, All-weaker}
use Rattle.std.proofs.lemmas.List.Elements.{All-contains, Contains-append_right, filter_passes}
use Rattle.admission.specs.declared.budget.Held.{Held}
use Rattle.admission.specs.declared.budget.Waits.{Waits}
use Rattle.admission.specs.Reservation.{IsBeforeEnd}
use Rattle.admission.specs.Waiting.{behind_of}
use Rattle.admission.specs.Table.{load_in, load_for, excess_over}
use Rattle.bsc_table.specs.Record.{is_live}
use Rattle.bsc_table.specs.Claim.{Claim, end_of, own_load, is_claimed_at, IsWaiting, stop_claims}
use Rattle.bsc_table.specs.Handover.{Place, handover}
use Rattle.bsc_table.specs.Room.{AreInOrder}
use Rattle.bsc_table.specs.Book.{waits_of, reservation_for, reservations_at}
use Rattle.bsc_table.specs.BookSteps.{IsHeldFor}
use Rattle.bsc_table.proofs.Room.Claims.{is_claimed_at-says, is_claimed_at-from}
use Rattle.bsc_table.proofs.Room.Ahead.{by_number, from_stopped}
use Rattle.bsc_table.proofs.Room.StoppedClaims.{stop_claim-other}
use Rattle.bsc_table.proofs.Room.StopKeepsRoom.{not_live, in_order-stop}
use Rattle.bsc_table.proofs.Room.TakeoverKeepsRoom.{is_free, only_live}
use Rattle.bsc_table.proofs.Cell.BudgetOfTable.{waits_of-started, live_is_claimed}

-- a reservation waits behind the message behind which its claim does, where that has not started
waits_behind : (slot entry : ℕ) (c : Claim)
    → behind_of (reservation_for slot c) ≡ Some entry
    → (slot < c.message.start) × (c.behind ≡ Some entry)
waits_behind slot entry c waits =
    let its : Option Waits → Option ℕ = λ o. option_map (λ (w : Waits). w.behind) o in
    elim (cases_lt slot c.message.start) [
      | inl later ↦ (later, sym (same c.behind) ∙ sym (ap its (before later)) ∙ waits)
      | inr started ↦ absurd (none-some entry (sym (ap its (waits_of-started slot c started)) ∙ waits))
    ]
  where
    waiting : Option ℕ → Option Waits
    waiting o = option_map (λ (n : ℕ). record { behind = n; start = c.message.start; excess = c.excess }) o

    before : slot < c.message.start → waits_of slot c ≡ waiting c.behind
    before later = ap (λ (b : Bool). cond b (waiting c.behind) None) (lt-ltb slot c.message.start later)

    same : (o : Option ℕ) → option_map (λ (w : Waits). w.behind) (waiting o) ≡ o
    same None = refl
    same (Some n) = refl

-- what is true of each claim that is reserved is true of each reservation
all_reservations : (P : Held → Type 0) (slot : ℕ) (claims : List Claim)
    → All (λ c. is_claimed_at slot c ≡ true → P (reservation_for slot c)) claims
    → All P (reservations_at slot claims)
all_reservations P slot claims each =
    let Counted : Claim → Type 0 = λ c. is_claimed_at slot c ≡ true in
    let Line : Claim → Type 0 = λ c. P (reservation_for slot c) in
    let kept = All-filter (is_claimed_at slot) (λ (c : Claim). Counted c → Line c) claims each in
    let passes = filter_passes (is_claimed_at slot) claims in
    All-map P (reservation_for slot) (filter (is_claimed_at slot) claims)
    (λ k d within. kept k d within (passes k d within))

-- behind a message that none waits for, no reservation waits
pub none_behind : (slot entry : ℕ) (claims : List Claim)
    → All (λ c. IsWaiting slot c → c.behind ≢ Some entry) claims
    → All (λ h. behind_of h ≢ Some entry) (reservations_at slot claims)
none_behind slot entry claims free =
    all_reservations (λ (h : Held). behind_of h ≢ Some entry) slot claims (λ k d within. λ claimed waits.
    let behind = waits_behind slot entry (get_or claims k d) waits in
    free k d within (behind.0, (is_claimed_at-says slot (get_or claims k d) claimed).1) behind.1)

-- so behind a live one
pub none_behind_live : (slot : ℕ) (claims : List Claim) (old : Claim)
    → AreInOrder claims slot
    → Contains claims old
    → is_live slot old.message ≡ true
    → All (λ h. behind_of h ≢ Some old.message.entry) (reservations_at slot claims)
none_behind_live slot claims old order here live =
    let entry = old.message.entry in
    let only = only_live claims slot old order.rising here live in
    none_behind slot entry claims (λ k d within. λ waiting behind.
    let found = order.handed k d within waiting in
    let p : Claim = found.1 in
    let same = same_Some p.message.entry entry (sym found.4.named ∙ behind) in
    not_live claims entry slot found.0 p (get_or claims k d) only found.2 found.3 found.4 same)

-- what passes a test stays
more_there : {X : Type 0} (b : Bool) (x : X) (xs : List X) (y : X) → Contains xs y → Contains (cond b (x ∷ xs) xs) y
more_there true x xs y there = Contains-append_right (x ∷ []) xs y there
more_there false x xs y there = there

all_that_pass : {X : Type 0} (p : X → Bool) (xs : List X) → All (λ x. p x ≡ true → Contains (filter p xs) x) xs
all_that_pass {X = X} p [] = All-nil (λ (x : X). p x ≡ true → Contains (filter p []) x)
all_that_pass {X = X} p (x ∷ xs) =
    let Passes : X → Type 0 = λ y. p y ≡ true → Contains (filter p (x ∷ xs)) y in
    let here : Passes x = λ passes. rw passes (0, omega arith, refl) in
    All-cons Passes x xs here (All-weaker (λ y. p y ≡ true → Contains (filter p xs) y) Passes
    (λ y kept passes. more_there (p x) x (filter p xs) y (kept passes)) xs (all_that_pass p xs))

-- the reservation of a claim that is reserved
pub its_reservation : (slot : ℕ) (claims : List Claim) (c : Claim)
    → Contains claims c
    → is_claimed_at slot c ≡ true
    → Contains (reservations_at slot claims) (reservation_for slot c)
its_reservation slot claims c here claimed =
    let Claimed : Claim → Type 0 = λ x. is_claimed_at slot x ≡ true → Contains (filter (is_claimed_at slot) claims) x in
    let kept = All-contains Claimed claims c (all_that_pass (is_claimed_at slot) claims) here claimed in (
      kept.0,
      omega (arith, kept.1, length-map (filter (is_claimed_at slot) claims) (reservation_for slot)),
      get_or-map (reservation_for slot) (filter (is_claimed_at slot) claims) kept.0 c (reservation_for slot c) kept.1
          ∙ ap (reservation_for slot) kept.2,
    )

-- the load that is held for an entry
load_of_entry : (entry load : ℕ) (reservations : List Held)
    → All (λ h. h.entry ≡ entry → h.load ≡ load) reservations
    → Any (λ h. h.entry ≡ entry) reservations
    → load_for entry reservations ≡ load
load_of_entry entry load [] all found = absurd (omega (arith, found.2))
load_of_entry entry load (h ∷ reservations) all found =
    let Says : Held → Type 0 = λ x. x.entry ≡ entry → x.load ≡ load in
    elim (cases_Bool (h.entry == entry)) [
      | inl same ↦ ap (λ (b : Bool). load_in (cond b (Some h) (find (λ (x : Held). x.entry == entry) reservations)))
          same
          ∙ All-head Says h reservations all (eqb-true h.entry entry same)
      | inr other ↦ ap (λ (b : Bool). load_in (cond b (Some h) (find (λ (x : Held). x.entry == entry) reservations)))
          other
          ∙ load_of_entry entry load reservations (All-tail Says h reservations all) (later other found)
    ]
  where
    later : (h.entry == entry) ≡ false → Any (λ x. x.entry ≡ entry) (h ∷ reservations)
        → Any (λ x. x.entry ≡ entry) reservations
    later other (zero, x, within, is, same) = absurd (false≢true
        (sym other ∙ eq-eqb h.entry entry (ap (λ (y : Held). y.entry) is ∙ same)))
    later other (suc k, x, within, is, same) = (k, x, omega (arith, within), is, same)

-- what a budget holds of the place that a message takes over
pub handed_in : (slot load : ℕ) (claims : List Claim) (old : Claim) (place : Place)
    → AreInOrder claims slot
    → Contains claims old
    → is_live slot old.message ≡ true
    → handover (stop_claims old.message.entry slot claims) slot old load ≡ Some place
    → (slot < place.start) × IsHeldFor (reservations_at slot (stop_claims old.message.entry slot claims)) load
    place.behind
    place.start place.excess
handed_in slot load claims old place order here live over =
    let entry = old.message.entry in
    let left = stop_claims entry slot claims in
    let kept = in_order-stop claims entry slot order (only_live claims slot old order.rising here live) in
    let its = is_free claims slot load old place order here live over in
    let p : Claim = its.p in
    let Accepted : Claim → Type 0 = λ c. c.accepted ≤ slot in
    let accepted : p.accepted ≤ slot = subst Accepted its.there.2 (kept.accepted its.there.0 p its.there.1) in
    let Before : Option ℕ → Type 0 = λ end. IsBeforeEnd slot end in
    let claimed = is_claimed_at-from slot p (accepted, subst Before (sym its.ends) its.later) in
    let reservation = its_reservation slot left p its.there claimed in
    let behind : p.message.entry ≡ place.behind = sym its.named in
    let Free : ℕ → Type 0 = λ n. All (λ h. behind_of h ≢ Some n) (reservations_at slot left) in
    let loads = all_reservations (λ (h : Held). h.entry ≡ place.behind → h.load ≡ own_load p.message) slot left
    (λ k d within. λ counted same.
    let c : Claim = get_or left k d in
    let is : get_or left k d ≡ p = by_number left (get_or left k d) p kept.rising
    (k, within, get_or_default left k (get_or left k d) d within) its.there (same ∙ sym behind) in
    ap (λ (x : Claim). own_load x.message) is) in
    let held = load_of_entry place.behind (own_load p.message) (reservations_at slot left) loads
    (reservation.0, reservation_for slot p, reservation.1, reservation.2, behind) in (
      its.later,
      record {
        ends = (
          reservation.0,
          reservation_for slot p,
          reservation.1,
          reservation.2,
          (behind, waits_of-started slot p its.ahead.started, its.ends),
        );
        free = subst Free behind (none_behind slot p.message.entry left its.ahead.free);
        over = ap (λ (n : ℕ). load - n) held ∙ sym its.excess;
      },
    )

-- and of the one ahead, before the old one is stopped
pub held_ahead : (slot load : ℕ) (claims : List Claim) (old : Claim) (place : Place)
    → AreInOrder claims slot
    → Contains claims old
    → is_live slot old.message ≡ true
    → handover (stop_claims old.message.entry slot claims) slot old load ≡ Some place
    → Any (λ h. (h.entry ≡ place.behind) × (h.waits ≡ None)) (reservations_at slot claims)
    × (excess_over place.behind load (reservations_at slot claims) ≡ place.excess)
held_ahead slot load claims old place order here live over =
    let entry = old.message.entry in
    let its = is_free claims slot load old place order here live over in
    let p : Claim = its.p in
    let from = from_stopped claims entry slot p its.there in
    let c : Claim = from.0 in
    let numbers : p.message.entry ≡ c.message.entry = ap (λ (x : Claim). x.message.entry) from.2 in
    let behind : c.message.entry ≡ place.behind = sym numbers ∙ sym its.named in
    let started : c.message.start ≤ slot = omega (arith, its.ahead.started, ap (λ (x : Claim). x.message.start) from.2)
    in
    let Stands : Claim → Type 0 = λ x. (x.accepted ≤ slot) × (0 < x.message.period) in
    let stands = subst Stands from.1.2 (order.accepted from.1.0 c from.1.1, order.periods from.1.0 c from.1.1) in
    let Before : Option ℕ → Type 0 = λ end. IsBeforeEnd slot end in
    let claimed : is_claimed_at slot c ≡ true = elim (cases_eq c.message.entry entry) [
      | inl same ↦
          let is : c ≡ old = by_number claims c old order.rising from.1 here same in
          live_is_claimed slot c stands.0 stands.1 (ap (λ (x : Claim). is_live slot x.message) is ∙ live)
      | inr other ↦
          let is : p ≡ c = from.2 ∙ stop_claim-other entry slot c other in
          let ends = ap (λ (x : Claim). end_of x.message) (sym is) ∙ its.ends in
          is_claimed_at-from slot c (stands.0, subst Before (sym ends) its.later)
    ] in
    let reservation = its_reservation slot claims c from.1 claimed in
    let loads = all_reservations (λ (h : Held). h.entry ≡ place.behind → h.load ≡ own_load p.message) slot claims
    (λ k d within. λ counted same.
    let x : Claim = get_or claims k d in
    let is : get_or claims k d ≡ c = by_number claims (get_or claims k d) c order.rising
    (k, within, get_or_default claims k (get_or claims k d) d within) from.1 (same ∙ sym behind) in
    ap (λ (y : Claim). own_load y.message) is ∙ sym (ap (λ (y : Claim). own_load y.message) from.2)) in
    let held = load_of_entry place.behind (own_load p.message) (reservations_at slot claims) loads
    (reservation.0, reservation_for slot c, reservation.1, reservation.2, behind) in (
      (reservation.0, reservation_for slot c, reservation.1, reservation.2, (behind, waits_of-started slot c started)),
      ap (λ (n : ℕ). load - n) held
          ∙ sym its.excess,
    )
