-- The bounds on the completed number: what counts as completed had begun, and what was over is completed.
use Rattle.std.proofs.Common.{◌≡◌, ℕ, zero, suc, ◌+◌, ◌-◌, ◌*◌, ◌/◌, ◌%◌, ◌≤◌, ◌<◌, ◌⊎◌, min, Bool, true, cond, get_or}
use Rattle.std.proofs.Common.{count_by, Option, Some, None, inl, inr, sym, ap, ◌∙◌, arith}
use Rattle.std.specs.Int.{div_ceil}
use Rattle.std.specs.List.{range_with_len}
use Rattle.std.proofs.lemmas.Bool.{cases_lt, cases_eq, cases_Bool, false≢true, eq-eqb, ne_eqb}
use Rattle.std.proofs.Math.Nat.{le-mul_of_pos_right, mul-le-mul_right, lt_of_mul-lt-mul_right, div-mul-le_self}
use Rattle.admission.proofs.Loads.{div_ceil-enough}
use Rattle.scheduler.specs.Message.{release, due, IsBeforeStop}
use Rattle.scheduler.specs.Completed.{is_completed}
use Rattle.scheduler.proofs.Completed.{one_if, is_completed-unreleased}
use Rattle.scheduler.proofs.Rule.{is_completed-says, is_completed-from}
use Rattle.bsc_table.specs.Guarantee.{IsUpToStop}
use Rattle.bsc_table.specs.Bounds.{sooner_of, stands_until, cut_at, least_completed, most_completed, CompletedIsAtMost}
use Rattle.bsc_table.specs.Bounds.{CompletedIsAtLeast, BoundsAreNear}
use Rattle.scheduler.proofs.Lists.{count_below_more}
use Rattle.bsc_table.proofs.Load.Guarantee.{admitted_broadcasts_are_completed}

-- of the numbers below n no more than n pass a test
count_below-le : (p : ℕ → Bool) (n : ℕ) → count_by p (range_with_len 0 n) ≤ n
count_below-le p zero = omega arith
count_below-le p (suc n) =
    elim (cases_Bool (p n)) [
      | inl passes ↦ omega (arith, count_below-le p n, count_below_more p n, ap one_if passes)
      | inr fails ↦ omega (arith, count_below-le p n, count_below_more p n, ap one_if fails)
    ]

-- what passes only below a number counts to that number at most
count_below-at_most : (p : ℕ → Bool) (most n : ℕ) → ((j : ℕ) → p j ≡ true → j < most)
    → count_by p (range_with_len 0 n) ≤ most
count_below-at_most p most zero below = omega arith
count_below-at_most p most (suc n) below =
    elim (cases_Bool (p n)) [
      | inl passes ↦ omega (arith, count_below-le p (suc n), below n passes)
      | inr fails ↦ omega (arith, count_below-at_most p most n below, count_below_more p n, ap one_if fails)
    ]

-- and what passes everywhere below a number counts to at least that number
count_below-at_least : (p : ℕ → Bool) (least n : ℕ) → least ≤ n → ((j : ℕ) → j < least → p j ≡ true)
    → least ≤ count_by p (range_with_len 0 n)
count_below-at_least p least zero within all = omega arith
count_below-at_least p least (suc n) within all =
    elim (cases_lt n least) [
      | inl last ↦
          let before = count_below-at_least p n n (omega arith) (λ j h. all j (omega arith)) in
          omega (arith, before, count_below_more p n, ap one_if (all n last))
      | inr sooner ↦ omega (arith, count_below-at_least p least n sooner all, count_below_more p n)
    ]

-- what is below the count was requested, and what was requested stays below
cut_at-below : (broadcasts count j : ℕ) → j < count → (broadcasts ≡ 0) ⊎ (j < broadcasts) → j < cut_at broadcasts count
cut_at-below broadcasts count j below has =
    elim (cases_eq broadcasts 0) [
      | inl always ↦ rw (eq-eqb broadcasts 0 always) below
      | inr some ↦
          let within : j < broadcasts = elim has [ inl never ↦ absurd (some never) | inr one ↦ one ] in
          rw (ne_eqb broadcasts 0 some) (omega arith)
    ]

below_cut_at : (broadcasts count j : ℕ) → j < cut_at broadcasts count → (j < count)
    × ((broadcasts ≡ 0) ⊎ (j < broadcasts))
below_cut_at broadcasts count j below =
    elim (cases_eq broadcasts 0) [
      | inl always ↦
          let all = ap (λ (b : Bool). cond b count (min broadcasts count)) (eq-eqb broadcasts 0 always) in
          (omega arith, inl always)
      | inr some ↦
          let least = ap (λ (b : Bool). cond b count (min broadcasts count)) (ne_eqb broadcasts 0 some) in
          (omega arith, inr (omega arith))
    ]

-- one more is one more at most when it is cut
cut_at-more : (broadcasts count more : ℕ) → more ≤ 1 → cut_at broadcasts (count + more) ≤ cut_at broadcasts count + 1
cut_at-more broadcasts count more one =
    elim (cases_eq broadcasts 0) [
      | inl always ↦ rw (eq-eqb broadcasts 0 always) (omega arith)
      | inr some ↦ rw (ne_eqb broadcasts 0 some) (omega arith)
    ]

-- a slot before the stop and the slot comes before the sooner of both
before_sooner : (s slot : ℕ) (stop : Option ℕ) → s < slot → IsBeforeStop s stop → s < sooner_of stop slot
before_sooner s slot None before standing = before
before_sooner s slot (Some stop) before standing = omega arith

-- one that comes no later than the sooner of both comes no later than each
upto_sooner : (s slot : ℕ) (stop : Option ℕ) → s ≤ sooner_of stop slot → (s ≤ slot) × IsUpToStop s stop
upto_sooner s slot None upto = (upto, tt)
upto_sooner s slot (Some stop) upto = (omega arith, omega arith)

-- broadcast j was released before a slot: then its period had begun
had_begun : (start period j slot : ℕ) → 0 < period → start + j * period < slot → j < div_ceil (slot - start) period
had_begun start period j slot some released =
    let enough = div_ceil-enough (slot - start) period some in
    let times : j * period < div_ceil (slot - start) period * period = omega arith in
    lt_of_mul-lt-mul_right period times

-- the period of broadcast j was over by a slot: then it was due by then
was_over : (start period j slot : ℕ) → 0 < period → j < (slot - start) / period → start + (j + 1) * period ≤ slot
was_over start period j slot some over =
    let next : j + 1 ≤ (slot - start) / period = omega arith in
    let times = mul-le-mul_right period next in
    let whole = div-mul-le_self (slot - start) period in
    let grows = le-mul_of_pos_right (j + 1) some in
    omega arith

-- no broadcast counts that had not begun
pub completed_is_at_most : CompletedIsAtMost
completed_is_at_most m air slot pages period =
    count_below-at_most (is_completed m air slot) (most_completed m slot) (slot + 1) (λ j whole.
    let fact = is_completed-says m air slot j whole in
    let released : release m j < slot = elim (cases_lt (release m j) slot) [
      | inl before ↦ before
      | inr later ↦ absurd (false≢true (sym (is_completed-unreleased m air slot j pages later) ∙ whole))
    ] in
    let stood = before_sooner (release m j) slot m.stop released fact.released in
    cut_at-below m.broadcasts (div_ceil (stands_until m slot - m.start) m.period) j
    (had_begun m.start m.period j (stands_until m slot) period stood) fact.requested)

-- each counts whose period was over, if the loads fit and the air list is by the rule
pub completed_is_at_least : CompletedIsAtLeast
completed_is_at_least messages air slot admitted rule played = λ k d within.
    let m = get_or messages k d in
    let period = admitted.periods k d within in
    let over = λ (j : ℕ) (h : j < least_completed m slot). below_cut_at m.broadcasts
    ((stands_until m slot - m.start) / m.period) j h in
    let uncut = λ (j : ℕ) (h : j < least_completed m slot). upto_sooner (due m j) slot m.stop
    (was_over m.start m.period j (stands_until m slot) period (over j h).0) in
    let few : least_completed m slot ≤ slot + 1 = elim (cases_lt (slot + 1) (least_completed m slot)) [
      | inl more ↦ absurd (omega (arith, (uncut (slot + 1) more).0, le-mul_of_pos_right (slot + 1 + 1) period))
      | inr few ↦ few
    ] in
    count_below-at_least (is_completed m air slot) (least_completed m slot) (slot + 1) few (λ j h.
    is_completed-from m air slot j (admitted_broadcasts_are_completed messages air slot admitted rule k d within j
    (record {
      requested = (over j h).1;
      standing = (uncut j h).1;
      aired_by = omega (arith, (uncut j h).0);
    }) (uncut j h).0))

-- the two bounds differ by one at most
pub bounds_are_near : BoundsAreNear
bounds_are_near m slot =
    let stood : ℕ = stands_until m slot - m.start in
    cut_at-more m.broadcasts (stood / m.period) (min 1 (stood % m.period)) (omega arith)
