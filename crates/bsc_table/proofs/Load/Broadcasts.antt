-- Broadcasts of one message, and the pages that are aired of it.
use Rattle.std.proofs.Common.{◌≡◌, ℕ, zero, suc, ◌+◌, ◌-◌, ◌*◌, ◌≤◌, ◌<◌, Bool, true, cond, length, get_or, Option}
use Rattle.std.proofs.Common.{Some, None, inl, inr, ap, subst, ◌∙◌, arith}
use Rattle.std.proofs.lemmas.Bool.{cases_Bool}
use Rattle.std.proofs.Math.Nat.{mul-le-mul_right, lt_of_mul-lt-mul_right}
use Rattle.scheduler.specs.Message.{ScheduledMessage, release, due, IsBeforeStop}
use Rattle.scheduler.specs.Air.{Air, airs, pages_aired}
use Rattle.scheduler.proofs.Air.{pages_aired-none}
use Rattle.scheduler.proofs.Rule.{pages_aired-more}
use Rattle.bsc_table.specs.Guarantee.{IsUpToStop}
use Rattle.bsc_table.proofs.Load.Sums.{total, total-none}

-- an earlier broadcast is due by the release of a later one
pub due-le-release : (m : ScheduledMessage) (i j : ℕ) → i < j → due m i ≤ release m j
due-le-release m i j before =
    let next : i + 1 ≤ j = omega arith in
    let times = mul-le-mul_right m.period next in
    omega arith

-- what is released sooner has the lesser number
pub release-lt : (m : ScheduledMessage) (i j : ℕ) → release m i < release m j → i < j
release-lt m i j sooner =
    let times : i * m.period < j * m.period = omega arith in
    lt_of_mul-lt-mul_right m.period times

-- before the stop is before it at earlier slots too
pub before_stop-sooner : (s t : ℕ) (stop : Option ℕ) → s ≤ t → IsBeforeStop t stop → IsBeforeStop s stop
before_stop-sooner s t None le h = tt
before_stop-sooner s t (Some stop) le h = omega arith

-- and so is a slot before one that comes no later than the stop
pub before_stop-up_to : (s t : ℕ) (stop : Option ℕ) → s < t → IsUpToStop t stop → IsBeforeStop s stop
before_stop-up_to s t None le h = tt
before_stop-up_to s t (Some stop) le h = omega arith

-- a page of the number at the slot
abbrev pub uses : ℕ → Air → ℕ → ℕ
uses n air slot = cond (airs n (get_or air slot None)) 1 0

-- the pages that are aired from one slot up to another, by the sums before them
pages_by_sums_on : (n : ℕ) (air : Air) (a k : ℕ) → a + k ≤ length air
    → pages_aired n air a (a + k) + total (uses n air) a ≡ total (uses n air) (a + k)
pages_by_sums_on n air a zero within =
    let same : a + 0 ≡ a = omega arith in
    omega (arith, pages_aired-none n air a (a + 0) (omega arith), ap (total (uses n air)) same)
pages_by_sums_on n air a (suc k) within =
    let before = pages_by_sums_on n air a k (omega arith) in
    let plus : a + suc k ≡ (a + k) + 1 = omega arith in
    let on : a + suc k ≡ suc (a + k) = omega arith in
    let more = ap (pages_aired n air a) plus ∙ pages_aired-more n air a (a + k) (omega arith) (omega arith) in
    omega (arith, before, more, ap (total (uses n air)) on)

-- the pages aired in a range are what its slots add to the sum up to its beginning
pub pages_by_sums : (n : ℕ) (air : Air) (a b : ℕ) → a ≤ b → b ≤ length air
    → pages_aired n air a b + total (uses n air) a ≡ total (uses n air) b
pages_by_sums n air a b h within =
    let reach : a + (b - a) ≡ b = omega arith in
    let P : ℕ → Type 0 = λ c. pages_aired n air a c + total (uses n air) a ≡ total (uses n air) c in
    subst P reach (pages_by_sums_on n air a (b - a) (omega arith))

-- where no slot airs the message, no page is aired
pub none_aired : (n : ℕ) (air : Air) (a b : ℕ) → a ≤ b → ((t : ℕ) → a ≤ t → t < b
    → ¬ (airs n (get_or air t None) ≡ true)) → total (uses n air) b ≡ total (uses n air) a
none_aired n air a b h none =
    total-none (uses n air) a b h (λ t low high. elim (cases_Bool (airs n (get_or air t None))) [
      | inl used ↦ absurd (none t low high used)
      | inr idle ↦ ap (λ (x : Bool). cond x 1 0) idle
    ])

-- the pages that are aired of the message in the slots before n
abbrev pub pages_before : ScheduledMessage → Air → ℕ → ℕ
pages_before m air n = total (uses m.entry air) n
