-- Lemmas on loads.
use Rattle.std.proofs.Common.{◌≡◌, ℕ, ◌+◌, ◌*◌, ◌≤◌, ◌<◌, Bool, true, false, cond, not, List, [], ◌∷◌, filter, sum_by}
use Rattle.std.proofs.Common.{refl, arith}
use Rattle.std.specs.Int.{div_ceil}
use Rattle.std.proofs.lemmas.Bool.{false≢true}
use Rattle.std.proofs.lemmas.List.Sums.{sum_by-cons}
use Rattle.std.proofs.lemmas.Grind.{div_ceil_times}
use Rattle.std.proofs.lemmas.List.Filters.{sum_by-filter_both}
use Rattle.std.proofs.Math.Nat.{lt_of_mul-lt-mul_right, le_of_mul-le-mul_right}
use Rattle.admission.specs.declared.measure.TheConstants.{SCALE}
use Rattle.admission.specs.Load.{load_of}

-- a filter sums to no more than the list
pub sum_by-filter-le : {X : Type 0} (f : X → ℕ) (p : X → Bool) (xs : List X) → sum_by f (filter p xs) ≤ sum_by f xs
sum_by-filter-le f p xs = omega (arith, sum_by-filter_both p (λ x. not (p x)) (λ _. refl) f xs)

-- an element that is kept adds its own
sum_by-cond : {X : Type 0} (f : X → ℕ) (b : Bool) (x : X) (xs : List X)
    → sum_by f (cond b (x ∷ xs) xs) ≡ cond b (f x) 0 + sum_by f xs
sum_by-cond f true x xs = sum_by-cons f x xs
sum_by-cond f false x xs = omega arith

cond-le_cond : (b c : Bool) (n : ℕ) → (b ≡ true → c ≡ true) → cond b n 0 ≤ cond c n 0
cond-le_cond true true n h = omega arith
cond-le_cond false c n h = omega arith
cond-le_cond true false n h = absurd (false≢true (h refl))

-- where one test passes only what another passes too, its filter sums to no more
pub sum_by-filter-le_filter : {X : Type 0} (f : X → ℕ) (p q : X → Bool) → ((x : X) → p x ≡ true → q x ≡ true)
    → (xs : List X) → sum_by f (filter p xs) ≤ sum_by f (filter q xs)
sum_by-filter-le_filter f p q within [] = omega arith
sum_by-filter-le_filter f p q within (x ∷ xs) =
    omega (
      arith,
      sum_by-filter-le_filter f p q within xs,
      sum_by-cond f (p x) x (filter p xs),
      sum_by-cond f (q x) x
          (filter q xs),
      cond-le_cond (p x) (q x) (f x) (within x),
    )

-- a quotient that is rounded up is enough
pub div_ceil-enough : (a b : ℕ) → 0 < b → a ≤ div_ceil a b * b
div_ceil-enough a b h = (div_ceil_times a b h).0

-- and the least number that is
pub div_ceil-least : (a b other : ℕ) → 0 < b → a ≤ other * b → div_ceil a b ≤ other
div_ceil-least a b other h enough =
    let near = (div_ceil_times a b h).1 in
    let below : div_ceil a b * b < (other + 1) * b = omega arith in
    omega (arith, lt_of_mul-lt-mul_right b below)

-- a whole quotient is not rounded
pub div_ceil-whole : (k b : ℕ) → 0 < b → div_ceil (k * b) b ≡ k
div_ceil-whole k b h =
    let most = div_ceil-least (k * b) b k h (omega arith) in
    let least : k ≤ div_ceil (k * b) b = le_of_mul-le-mul_right (div_ceil-enough (k * b) b h) h in
    omega arith

-- a message's load, taken as often as its period has slots, is at least SCALE for each of its pages
pub load_of-enough : (pages period : ℕ) → 0 < period → SCALE * pages ≤ load_of pages period * period
load_of-enough pages period h = div_ceil-enough (SCALE * pages) period h
