-- An axis has all its ticks.
use Rattle.std.proofs.Common.{◌≡◌, ◌<◌, ◌≤◌, ◌+◌, ◌-◌, ◌*◌, ℕ, Option, subst, sym}
use native.Mathlib.Omega.{arith}
use Rattle.std.proofs.Math.Nat.{mul-le-mul_right, mul_assoc}
use Rattle.std.proofs.lemmas.Grind.{div_ceil_times}
use Rattle.std.specs.Int.{div_ceil}
use Rattle.chart.specs.Laws.{TicksReachTheEnd}
use Rattle.chart.specs.Time.{day_begun, first_number, seconds_at, step_of}
use Rattle.slot_times.specs.declared.start.Start.{Start}

-- the step is long enough for 36 hours
steps_suffice : (seconds : ℕ) → seconds < 129600 → seconds < 6 * step_of seconds
steps_suffice seconds few = grind (arith, few)

-- and not too short
pub steps_are_long : (seconds : ℕ) → 10 ≤ step_of seconds
steps_are_long seconds = grind arith

-- a multiple before the first that reaches a number is less than that
comes_before : (a b number : ℕ) → 0 < b → number < div_ceil a b → number * b < a
comes_before a b number some less =
    let least = (div_ceil_times a b some).1 in
    let next : number + 1 ≤ div_ceil a b = omega (arith, less) in
    let more : (number + 1) * b ≤ div_ceil a b * b = mul-le-mul_right b next in
    let all : (number + 1) * b ≡ number * b + b = omega arith in
    omega (arith, least, more, all)

-- six more than that reach the end
reaches : (start : Option Start) (first step from to : ℕ) → from ≤ to → to < 65536
    → day_begun start * 13 + from * 24480000 ≤ first * step * 13000000
    → seconds_at start to - seconds_at start from < 6 * step
    → seconds_at start to < (first + 6) * step
reaches start first step from to ordered few after enough =
    let all : (first + 6) * step ≡ first * step + 6 * step = omega arith in
    omega (arith, ordered, few, after, enough, all)

-- the first tick is the first in what is drawn, and a seventh would come later
pub ticks_reach_the_end : TicksReachTheEnd
ticks_reach_the_end start s ordered few =
    let begun : ℕ = day_begun start * 13 + s.from * 24480000 in
    let seconds : ℕ = seconds_at start s.to - seconds_at start s.from in
    let step : ℕ = step_of seconds in
    let long = steps_are_long seconds in
    let first : ℕ = first_number start s.from step in
    let some : 0 < step * 13000000 = omega (arith, long) in
    let after : begun ≤ first * step * 13000000 =
    subst (λ (n : ℕ). begun ≤ n) (sym (mul_assoc first step 13000000))
    (div_ceil_times begun (step * 13000000) some).0 in (
      λ number less. subst (λ (n : ℕ). n < begun) (sym (mul_assoc number step 13000000))
          (comes_before begun (step * 13000000) number some less),
      reaches start first step s.from s.to ordered few after (steps_suffice seconds (omega (arith, ordered, few))),
    )
