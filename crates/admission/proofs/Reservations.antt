-- Lemmas on reservations and their ends.
use Rattle.std.proofs.Common.{◌≡◌, ℕ, ◌+◌, ◌-◌, ◌*◌, ◌≤◌, ◌<◌, min, ◌&&◌, Bool, true, false, Option, Some, None, leb}
use Rattle.std.proofs.Common.{List, filter, sum_by, arith, refl, ap, ◌∙◌}
use Rattle.std.proofs.lemmas.Bool.{ltb-true, lt-ltb, leb-true, le-leb, false≢true}
use Rattle.std.specs.Int.{div_ceil}
use Rattle.std.proofs.Math.Nat.{lt_of_mul-lt-mul_right, mul-le-mul_left}
use Rattle.admission.specs.Reservation.{Reservation, IsBeforeEnd, IsReservedAt, is_before_end, is_reserved_at, loads_at}
use Rattle.admission.specs.Reservation.{end_of_stopped}
use Rattle.admission.proofs.Loads.{sum_by-filter-le, sum_by-filter-le_filter, div_ceil-enough, div_ceil-least}
use Rattle.admission.proofs.Loads.{div_ceil-whole}

-- the loads at a slot are no more than all loads
pub loads_at-le : (reservations : List Reservation) (slot : ℕ)
    → loads_at reservations slot ≤ sum_by (λ r. r.load) reservations
loads_at-le reservations slot = sum_by-filter-le (λ r. r.load) (is_reserved_at slot) reservations

-- the test says what the fact says
pub is_before_end-says : (slot : ℕ) (end : Option ℕ) → is_before_end slot end ≡ true → IsBeforeEnd slot end
is_before_end-says slot None h = tt
is_before_end-says slot (Some end) h = ltb-true slot end h

-- a slot before the end passes the test
pub is_before_end-from : (slot : ℕ) (end : Option ℕ) → IsBeforeEnd slot end → is_before_end slot end ≡ true
is_before_end-from slot None h = refl
is_before_end-from slot (Some end) h = lt-ltb slot end h

-- both tests of a conjunction passed
both : (a b : Bool) → (a && b) ≡ true → (a ≡ true) × (b ≡ true)
both true b h = (refl, h)
both false b h = absurd (false≢true h)

-- a slot that passes the test is reserved
pub is_reserved_at-says : (slot : ℕ) (r : Reservation) → is_reserved_at slot r ≡ true → IsReservedAt r slot
is_reserved_at-says slot r h =
    let passed = both (leb r.start slot) (is_before_end slot r.end) h in
    (leb-true r.start slot passed.0, is_before_end-says slot r.end passed.1)

-- and a slot that is reserved passes it
pub is_reserved_at-from : (slot : ℕ) (r : Reservation) → IsReservedAt r slot → is_reserved_at slot r ≡ true
is_reserved_at-from slot r h =
    let started = le-leb r.start slot h.0 in
    let stands = is_before_end-from slot r.end h.1 in
    rw (started, stands) refl

-- before the end stays before it at earlier slots
pub IsBeforeEnd-earlier : (clock slot : ℕ) (end : Option ℕ) → clock ≤ slot → IsBeforeEnd slot end
    → IsBeforeEnd clock end
IsBeforeEnd-earlier clock slot None le h = tt
IsBeforeEnd-earlier clock slot (Some end) le h = omega arith

-- from a slot on, the loads at each slot are no more than those of the reservations that have not ended by that slot
pub loads_at-le_standing : (reservations : List Reservation) (clock slot : ℕ) → clock ≤ slot
    → loads_at reservations slot ≤ sum_by (λ r. r.load) (filter (λ r. is_before_end clock r.end) reservations)
loads_at-le_standing reservations clock slot le =
    sum_by-filter-le_filter (λ r. r.load) (is_reserved_at slot) (λ r. is_before_end clock r.end)
    (λ r counted. is_before_end-from clock r.end (IsBeforeEnd-earlier clock slot r.end le
    (is_reserved_at-says slot r counted).1)) reservations

-- a stop on a period's boundary is itself the end
pub end_of_stopped-boundary : (start period periods : ℕ) → 0 < period
    → end_of_stopped start period (start + periods * period) ≡ start + periods * period
end_of_stopped-boundary start period periods h =
    let gone : start + periods * period - start ≡ periods * period = omega arith in
    let started : min start (start + periods * period) ≡ start = omega arith in
    let from = ap (λ n. n + period * div_ceil (start + periods * period - start) period) started in
    let whole = ap (λ n. start + period * div_ceil n period) gone in
    let exact = ap (λ n. start + period * n) (div_ceil-whole periods period h) in
    let turned : start + period * periods ≡ start + periods * period = omega arith in
    from ∙ (whole ∙ (exact ∙ turned))

-- the reservation does not end before the stop
pub end_of_stopped-not_before : (start period stop : ℕ) → 0 < period → stop ≤ end_of_stopped start period stop
end_of_stopped-not_before start period stop h = omega (arith, div_ceil-enough (stop - start) period h)

-- a stop before the end of a whole number of periods leaves the reservation's end there or earlier
pub end_of_stopped-no_later : (start period periods stop : ℕ) → 0 < period → stop ≤ start + periods * period
    → end_of_stopped start period stop ≤ start + periods * period
end_of_stopped-no_later start period periods stop h before =
    let least = div_ceil-least (stop - start) period periods h (omega arith) in
    let times = mul-le-mul_left period least in
    omega arith

-- each period that begins before the stop lies inside the reservation
pub end_of_stopped-covers : (start period periods stop : ℕ) → 0 < period → start + periods * period < stop
    → start + (periods + 1) * period ≤ end_of_stopped start period stop
end_of_stopped-covers start period periods stop h before =
    let enough = div_ceil-enough (stop - start) period h in
    let above : periods * period < div_ceil (stop - start) period * period = omega arith in
    let more : periods + 1 ≤ div_ceil (stop - start) period = omega (arith, lt_of_mul-lt-mul_right period above) in
    let times = mul-le-mul_left period more in
    omega arith

-- a stop at the start or before it ends the reservation at once
pub end_of_stopped-early : (start period stop : ℕ) → 0 < period → stop ≤ start → end_of_stopped start period stop ≡ stop
end_of_stopped-early start period stop h early =
    let none : stop - start ≡ 0 = omega arith in
    let nothing = ap (λ n. period * div_ceil n period) none in
    let least = div_ceil-least 0 period 0 h (omega arith) in
    let zero : div_ceil 0 period ≡ 0 = omega (arith, least) in
    let times = ap (λ n. period * n) zero in
    omega (arith, nothing, times)
