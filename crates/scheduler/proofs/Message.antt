-- Lemmas on the tests of a message's broadcasts.
use Rattle.std.proofs.Common.{◌≡◌, ℕ, Bool, true, false, ◌||◌, ltb, eqb, Option, Some, None, inl, inr, refl, ap}
use Rattle.std.proofs.lemmas.Bool.{or_cases, lt-ltb, ltb-true, eq-eqb, eqb-true}
use Rattle.scheduler.specs.Message.{ScheduledMessage, HasBroadcast, IsBeforeStop, has_broadcast, is_before_stop}

-- the tests say what the facts say
pub has_broadcast-says : (m : ScheduledMessage) (j : ℕ) → has_broadcast m j ≡ true → HasBroadcast m j
has_broadcast-says m j h =
    elim (or_cases (eqb m.broadcasts 0) (ltb j m.broadcasts) h) [
      | inl always ↦ inl (eqb-true m.broadcasts 0 always)
      | inr below ↦ inr (ltb-true j m.broadcasts below)
    ]

-- a broadcast that was requested passes the test
pub has_broadcast-from : (m : ScheduledMessage) (j : ℕ) → HasBroadcast m j → has_broadcast m j ≡ true
has_broadcast-from m j h =
    elim h [
      | inl always ↦ ap (λ (b : Bool). b || ltb j m.broadcasts) (eq-eqb m.broadcasts 0 always)
      | inr below ↦ or_right (eqb m.broadcasts 0) (ltb j m.broadcasts) (lt-ltb j m.broadcasts below)
    ]
  where
    or_right : (x y : Bool) → y ≡ true → (x || y) ≡ true
    or_right true y h = refl
    or_right false y h = h

-- a slot that passes the test comes before the stop
pub is_before_stop-says : (slot : ℕ) (stop : Option ℕ) → is_before_stop slot stop ≡ true → IsBeforeStop slot stop
is_before_stop-says slot None h = tt
is_before_stop-says slot (Some stop) h = ltb-true slot stop h

-- and a slot before the stop passes it
pub is_before_stop-from : (slot : ℕ) (stop : Option ℕ) → IsBeforeStop slot stop → is_before_stop slot stop ≡ true
is_before_stop-from slot None h = refl
is_before_stop-from slot (Some stop) h = lt-ltb slot stop h
