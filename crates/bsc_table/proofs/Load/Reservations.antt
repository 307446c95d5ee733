-- Reservations of messages, slot by slot.
use Rattle.std.proofs.Common.{◌≡◌, ℕ, ◌+◌, ◌-◌, ◌*◌, ◌≤◌, ◌<◌, Bool, true, false, cond, List, [], ◌∷◌, map, filter}
use Rattle.std.proofs.Common.{sum_by, Option, Some, None, inl, inr, ◌⊎◌, refl, ap, subst, arith}
use Rattle.std.proofs.lemmas.List.Sums.{sum_by-cons}
use Rattle.std.proofs.lemmas.Bool.{eq-eqb, cases_eq, ne_eqb}
use Rattle.std.proofs.Math.Nat.{mul-le-mul_right}
use Rattle.admission.specs.declared.measure.TheConstants.{SCALE}
use Rattle.admission.specs.Load.{load_of}
use Rattle.admission.specs.Reservation.{Reservation, IsBeforeEnd, IsReservedAt, is_reserved_at, loads_at, natural_end}
use Rattle.admission.specs.Reservation.{end_of_reservation}
use Rattle.admission.proofs.Reservations.{is_reserved_at-from, end_of_stopped-covers}
use Rattle.scheduler.specs.Message.{ScheduledMessage, release, due, HasBroadcast, IsBeforeStop}
use Rattle.bsc_table.proofs.Load.Sums.{total, total-at_least, total-at_most, exchange}
use Rattle.bsc_table.specs.Guarantee.{reservation_of, LoadsFit, ReservationsCoverBroadcasts}

-- a broadcast that was requested is due by the end of what runs out
before_natural_end : (start period broadcasts j slot : ℕ) → (broadcasts ≡ 0) ⊎ (j < broadcasts)
    → slot < start + (j + 1) * period → IsBeforeEnd slot (natural_end start period broadcasts)
before_natural_end start period broadcasts j slot has before =
    elim (cases_eq broadcasts 0) [
      | inl always ↦ rw (eq-eqb broadcasts 0 always) tt
      | inr some ↦
          let within : j + 1 ≤ broadcasts = elim has [ inl never ↦ absurd (some never) | inr below ↦ omega arith ] in
          let times = mul-le-mul_right period within in
          rw (ne_eqb broadcasts 0 some) (omega arith)
    ]

-- the same where it may have been stopped
before_end : (start period broadcasts j slot : ℕ) (stop : Option ℕ) → (broadcasts ≡ 0) ⊎ (j < broadcasts)
    → IsBeforeStop (start + j * period) stop → start + j * period ≤ slot → slot < start + (j + 1) * period
    → IsBeforeEnd slot (end_of_reservation start period broadcasts stop)
before_end start period broadcasts j slot None has standing released before =
    before_natural_end start period broadcasts j slot has before
before_end start period broadcasts j slot (Some stop) has standing released before =
    let some : 0 < period = omega arith in
    let covers = end_of_stopped-covers start period j stop some standing in
    omega arith

-- a message is reserved at each slot of each of its broadcasts released before its stop
pub reservations_cover_broadcasts : ReservationsCoverBroadcasts
reservations_cover_broadcasts m j slot has standing released before =
    (omega arith, before_end m.start m.period m.broadcasts j slot m.stop has standing released before)

-- the load that a message has reserved at a slot
abbrev pub load_at : ScheduledMessage → ℕ → ℕ
load_at m slot = cond (is_reserved_at slot (reservation_of m)) (load_of m.pages m.period) 0

load_at-reserved : (m : ScheduledMessage) (slot : ℕ) → IsReservedAt (reservation_of m) slot
    → load_at m slot ≡ load_of m.pages m.period
load_at-reserved m slot reserved =
    ap (λ (b : Bool). cond b (load_of m.pages m.period) 0) (is_reserved_at-from slot (reservation_of m) reserved)

-- over a broadcast that was released before its message's stop, the load is reserved in each slot
pub reserved_over : (m : ScheduledMessage) (j : ℕ) → HasBroadcast m j → IsBeforeStop (release m j) m.stop
    → total (load_at m) (release m j) + load_of m.pages m.period * m.period ≤ total (load_at m) (due m j)
reserved_over m j has standing =
    let reach : release m j + m.period ≡ due m j = omega arith in
    let load : ℕ = load_of m.pages m.period in
    let P : ℕ → Type 0 = λ n. total (load_at m) (release m j) + load * m.period ≤ total (load_at m) n in
    subst P reach (total-at_least (load_at m) load (release m j) m.period (λ t low high.
    let same = load_at-reserved m t (reservations_cover_broadcasts m j t has standing low (omega arith)) in
    at_least (load_at m t) load same))
  where
    at_least : (x y : ℕ) → x ≡ y → y ≤ x
    at_least x y e = omega arith

-- an element that is kept adds its own
sum_by-kept : {X : Type 0} (f : X → ℕ) (b : Bool) (x : X) (xs : List X)
    → sum_by f (cond b (x ∷ xs) xs) ≡ cond b (f x) 0 + sum_by f xs
sum_by-kept f true x xs = sum_by-cons f x xs
sum_by-kept f false x xs = omega arith

-- the loads reserved at a slot, message by message
pub loads_by_message : (messages : List ScheduledMessage) (slot : ℕ)
    → loads_at (map reservation_of messages) slot ≡ sum_by
    (λ m. load_at m slot) messages
loads_by_message [] slot = refl
loads_by_message (m ∷ messages) slot =
    omega (
      arith,
      loads_by_message messages slot,
      sum_by-cons (λ o. load_at o slot) m messages,
      sum_by-kept
          (λ (r : Reservation). r.load) (is_reserved_at slot (reservation_of m)) (reservation_of m)
          (filter (is_reserved_at slot) (map reservation_of messages)),
    )

-- where the loads of each slot sum to at most scale, those of a range do to at most so many times that
pub loads_grow : (scale : ℕ) (messages : List ScheduledMessage) (from to : ℕ) → from ≤ to
    → ((slot : ℕ) → sum_by (λ m. load_at m slot) messages ≤ scale)
    → sum_by (λ o. total (load_at o) to) messages ≤ sum_by (λ o. total (load_at o) from) messages + scale * (to - from)
loads_grow scale messages from to forward fits =
    let f = λ (t : ℕ). sum_by (λ (o : ScheduledMessage). load_at o t) messages in
    let reach : from + (to - from) ≡ to = omega arith in
    let grown = total-at_most f scale from (to - from) fits in
    let at_from = exchange load_at messages from in
    let at_to = exchange load_at messages to in
    let moved = ap (total f) reach in
    omega arith

-- what fits at each slot, message by message
pub fits_by_message : (messages : List ScheduledMessage) → LoadsFit messages → (slot : ℕ)
    → sum_by (λ m. load_at m slot) messages ≤ SCALE
fits_by_message messages fit slot = omega (arith, fit slot, loads_by_message messages slot)
