-- The demand of a range of slots.
use Rattle.std.proofs.Common.{◌≡◌, ℕ, zero, suc, ◌+◌, ◌-◌, ◌*◌, ◌≤◌, ◌<◌, ◌⊎◌, Bool, true, false, ◌&&◌, leb, cond}
use Rattle.std.proofs.Common.{get_or, sum_by, count_by, inl, inr, refl, ap, ◌∙◌, arith}
use Rattle.std.specs.List.{range_with_len}
use Rattle.std.proofs.lemmas.Bool.{cases_lt, cases_Bool, and_parts, and_from, leb-true, le-leb}
use Rattle.std.proofs.Math.Nat.{le_of_mul-le-mul_left}
use Rattle.admission.specs.declared.measure.TheConstants.{SCALE}
use Rattle.admission.specs.Load.{load_of}
use Rattle.admission.proofs.Loads.{load_of-enough}
use Rattle.scheduler.specs.Message.{ScheduledMessage, release, due, HasBroadcast, IsBeforeStop, has_broadcast}
use Rattle.scheduler.specs.Message.{is_before_stop}
use Rattle.scheduler.proofs.Lists.{count_below_more}
use Rattle.scheduler.proofs.Message.{has_broadcast-says, has_broadcast-from, is_before_stop-says, is_before_stop-from}
use Rattle.bsc_table.specs.Guarantee.{is_inside, DemandIsNoMoreThanTheSlots}
use Rattle.admission.proofs.Matched.{sum_by-plus, sum_by-le_all}
use Rattle.bsc_table.proofs.Load.Sums.{total, total-le, sum_by-times}
use Rattle.bsc_table.proofs.Load.Reservations.{load_at, reserved_over, loads_grow, fits_by_message}

-- a count by a longer range is no less
count_below-le : (p : ℕ → Bool) (k n : ℕ) → k ≤ n → count_by p (range_with_len 0 k) ≤ count_by p (range_with_len 0 n)
count_below-le p k zero h =
    let none : k ≡ 0 = omega arith in
    omega (arith, ap (λ i. count_by p (range_with_len 0 i)) none)
count_below-le p k (suc n) h =
    elim (cases_lt n k) [
      | inl all ↦
          let same : k ≡ suc n = omega arith in
          omega (arith, ap (λ i. count_by p (range_with_len 0 i)) same)
      | inr shorter ↦ omega (arith, count_below-le p k n shorter, count_below_more p n)
    ]

-- how many of the broadcasts below n are inside the range
abbrev pub count_inside : ScheduledMessage → ℕ → ℕ → ℕ → ℕ
count_inside m from to n = count_by (is_inside m from to) (range_with_len 0 n)

-- the count of broadcasts inside a range grows with their number
pub count_inside-le : (m : ScheduledMessage) (from to k n : ℕ) → k ≤ n
    → count_inside m from to k ≤ count_inside m from to n
count_inside-le m from to k n h = count_below-le (is_inside m from to) k n h

-- by one, for a broadcast inside
pub count_inside-one : (m : ScheduledMessage) (from to n : ℕ) → is_inside m from to n ≡ true
    → count_inside m from to (suc n) ≡ count_inside m from to n + 1
count_inside-one m from to n one =
    count_below_more (is_inside m from to) n ∙ ap (λ (x : Bool). count_inside m from to n + cond x 1 0) one

-- and not for another one
pub count_inside-none : (m : ScheduledMessage) (from to n : ℕ) → is_inside m from to n ≡ false
    → count_inside m from to (suc n) ≡ count_inside m from to n
count_inside-none m from to n none =
    let nothing : count_inside m from to n + 0 ≡ count_inside m from to n = omega arith in
    count_below_more (is_inside m from to) n ∙ (ap (λ (x : Bool). count_inside m from to n + cond x 1 0) none ∙ nothing)

-- what the test of a broadcast inside a range says
pub record IsInside (m : ScheduledMessage) (from to j : ℕ) : Type 0 where
  pub requested : HasBroadcast m j
  pub standing : IsBeforeStop (release m j) m.stop
  pub released : from ≤ release m j
  pub due_by : due m j ≤ to

is_inside-says : (m : ScheduledMessage) (from to j : ℕ) → is_inside m from to j ≡ true → IsInside m from to j
is_inside-says m from to j h =
    let first = and_parts (has_broadcast m j) (is_before_stop (release m j) m.stop &&
    (leb from (release m j) && leb (due m j) to)) h in
    let second = and_parts (is_before_stop (release m j) m.stop) (leb from (release m j) && leb (due m j) to) first.1 in
    let third = and_parts (leb from (release m j)) (leb (due m j) to) second.1 in
    record {
      requested = has_broadcast-says m j first.0;
      standing = is_before_stop-says (release m j) m.stop second.0;
      released = leb-true from (release m j) third.0;
      due_by = leb-true (due m j) to third.1;
    }

-- a broadcast inside passes the test
pub is_inside-from : (m : ScheduledMessage) (from to j : ℕ) → IsInside m from to j → is_inside m from to j ≡ true
is_inside-from m from to j fact =
    let third = and_from (leb from (release m j)) (leb (due m j) to) (le-leb from (release m j) fact.released)
    (le-leb (due m j) to fact.due_by) in
    let second = and_from (is_before_stop (release m j) m.stop) (leb from (release m j) && leb (due m j) to)
    (is_before_stop-from (release m j) m.stop fact.standing) third in
    and_from (has_broadcast m j) (is_before_stop (release m j) m.stop && (leb from (release m j) && leb (due m j) to))
    (has_broadcast-from m j fact.requested) second

-- one more of the same, by numbers alone
one_more : (scale pages count load period before upto high : ℕ) → scale * pages ≤ load * period
    → scale * (pages * count) + before ≤ upto → upto + load * period ≤ high
    → scale * (pages * (count + 1)) + before ≤ high
one_more scale pages count load period before upto high enough taken reserved = omega arith

-- the broadcasts below n inside the range have reserved, up to the release of broadcast n or the end of the range, what
-- their pages take
inside_below : (m : ScheduledMessage) (from to n b : ℕ) → 0 < m.period → from ≤ b → (release m n ≤ b) ⊎ (to ≤ b)
    → SCALE * (m.pages * count_inside m from to n) + total (load_at m) from ≤ total (load_at m) b
inside_below m from to zero b period ahead upto =
    let none : SCALE * (m.pages * count_inside m from to 0) ≡ 0 = omega arith in
    let more = total-le (load_at m) from b ahead in
    omega arith
inside_below m from to (suc n) b period ahead upto =
    elim (cases_Bool (is_inside m from to n)) [
      | inl one ↦
          let fact = is_inside-says m from to n one in
          let by : due m n ≤ b = elim upto [ inl next ↦ omega arith | inr over ↦ omega (arith, fact.due_by, over) ] in
          let before = inside_below m from to n (release m n) period fact.released (inl (omega arith)) in
          let reserved = reserved_over m n fact.requested fact.standing in
          let more = total-le (load_at m) (due m n) b by in
          let all = one_more SCALE m.pages (count_inside m from to n) (load_of m.pages m.period) m.period
          (total (load_at m) from) (total (load_at m) (release m n)) (total (load_at m) (due m n))
          (load_of-enough m.pages m.period period) before reserved in
          let counted = count_inside-one m from to n one in
          let times = ap (λ (k : ℕ). SCALE * (m.pages * k)) counted in
          omega arith
      | inr none ↦
          let before = inside_below m from to n b period ahead
          (elim upto [ inl next ↦ inl (omega arith) | inr over ↦ inr over ]) in
          let counted = count_inside-none m from to n none in
          let times = ap (λ (k : ℕ). SCALE * (m.pages * k)) counted in
          omega arith
    ]

-- nothing is inside a range that ends before it begins
none_inside : (m : ScheduledMessage) (from to n : ℕ) → to < from → count_inside m from to n ≡ 0
none_inside m from to zero behind = refl
none_inside m from to (suc n) behind =
    let before = none_inside m from to n behind in
    elim (cases_Bool (is_inside m from to n)) [
      | inl one ↦
          let fact = is_inside-says m from to n one in
          absurd (omega (arith, fact.released, fact.due_by))
      | inr none ↦
          let counted = count_inside-none m from to n none in
          omega arith
    ]

-- if the loads fit, the broadcasts inside a range have no more pages than it has slots
pub demand_is_no_more_than_the_slots : DemandIsNoMoreThanTheSlots
demand_is_no_more_than_the_slots messages from to periods fit =
    let count = λ (m : ScheduledMessage). m.pages * count_inside m from to to in
    elim (cases_lt to from) [
      | inl behind ↦
          let none = sum_by-le_all count (λ m. 0 * 0) messages
          (λ k d h. no_pages (get_or messages k d).pages _ (none_inside (get_or messages k d) from to to behind)) in
          omega (arith, none, sum_by-times 0 (λ (m : ScheduledMessage). 0) messages)
      | inr forward ↦
          let taken = λ (m : ScheduledMessage). SCALE * count m + total (load_at m) from in
          let each = sum_by-le_all taken (λ m. total (load_at m) to) messages
          (λ k d h. inside_below (get_or messages k d) from to to to (periods k d h) forward (inr (omega arith))) in
          let parts = sum_by-plus (λ (m : ScheduledMessage). SCALE * count m)
          (λ (m : ScheduledMessage). total (load_at m) from) messages
          in
          let times = sum_by-times SCALE count messages in
          let grown = loads_grow SCALE messages from to forward (fits_by_message messages fit) in
          let whole : SCALE * sum_by count messages ≤ SCALE * (to - from) = omega arith in
          le_of_mul-le-mul_left whole (omega arith)
    ]
  where
    no_pages : (pages n : ℕ) → n ≡ 0 → pages * n ≤ 0 * 0
    no_pages pages n e = omega (arith, ap (λ (k : ℕ). pages * k) e)
