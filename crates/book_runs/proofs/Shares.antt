-- How many items of a list there are for each number: all numbers below a bound share those below it.
use Rattle.std.proofs.Common.{◌≡◌, ℕ, ◌+◌, zero, suc, ◌<◌, ◌≤◌, Bool, true, false, cond, List, [], ◌∷◌, length}
use Rattle.std.proofs.Common.{eqb, ltb, filter, refl, ap, subst, sym, ◌∙◌, arith, inl, inr}
use Rattle.std.specs.List.{All}
use Rattle.std.proofs.lemmas.Bool.{cases_lt, cases_order, eq-eqb, le-ltb, lt-ltb, ne_eqb}
use Rattle.std.proofs.lemmas.List.Elements.{All-head, All-tail}

-- the sum of a number's values below a bound
abbrev pub total : (ℕ → ℕ) → ℕ → ℕ
total f zero = 0
total f (suc n) = total f n + f n

-- a sum of shares, each at most another, is at most the sum of those
pub total_le : (f g : ℕ → ℕ) (n : ℕ) → ((q : ℕ) → q < n → f q ≤ g q) → total f n ≤ total g n
total_le f g zero each = omega arith
total_le f g (suc n) each =
    let earlier = total_le f g n (λ q below. each q (omega arith)) in
    let last = each n (omega arith) in
    omega (arith, earlier, last)

-- and less, if one of the shares is less
pub total_lt : (f g : ℕ → ℕ) (n : ℕ) → ((q : ℕ) → q < n → f q ≤ g q) → (k : ℕ) → k < n → f k < g k
    → total f n < total g n
total_lt f g zero each k within less = absurd (omega (arith, within))
total_lt f g (suc n) each k within less = elim (cases_lt k n) [
  | inl below ↦
      let earlier = total_lt f g n (λ q under. each q (omega arith)) k below less in
      let last = each n (omega arith) in
      omega (arith, earlier, last)
  | inr past ↦
      let earlier = total_le f g n (λ q under. each q (omega arith)) in
      let here = subst (λ q. f q < g q) (same k n within past) less in
      omega (arith, earlier, here)
]
  where
    same : (a b : ℕ) → a < suc b → b ≤ a → a ≡ b
    same a b less least = omega arith

-- the items of which a number is this one, and those of which it is less
abbrev pub share : {X : Type 0} → (X → ℕ) → List X → (q : ℕ) → ℕ
share f xs q = length (filter (λ x. eqb (f x) q) xs)

abbrev below : {X : Type 0} → (X → ℕ) → List X → (n : ℕ) → ℕ
below f xs n = length (filter (λ x. ltb (f x) n) xs)

one_more : {X : Type 0} (f : X → ℕ) (xs : List X) (n : ℕ) → below f xs (suc n) ≡ below f xs n + share f xs n
one_more f [] n = refl
one_more {X = X} f (x ∷ xs) n = elim (cases_order (f x) n) [
  | inl same ↦
      adds (one_more f xs n) true false true (lt-ltb (f x) (suc n) (omega (arith, same)))
      (le-ltb (f x) n (omega (arith, same))) (eq-eqb (f x) n same) (λ k m s is. omega arith)
  | inr apart ↦ elim apart [
    | inl before ↦
        adds (one_more f xs n) true true false (lt-ltb (f x) (suc n) (omega arith)) (lt-ltb (f x) n before)
        (ne_eqb (f x) n (λ same. less before same)) (λ k m s is. omega arith)
    | inr after ↦
        adds (one_more f xs n) false false false (le-ltb (f x) (suc n) (omega arith))
        (le-ltb (f x) n (omega arith)) (ne_eqb (f x) n (λ same. less after (sym same))) (λ k m s is. is)
  ]
]
  where
    less : {m k : ℕ} → m < k → m ≡ k → ⊥
    less before same = omega arith

    long : (b : Bool) (kept : List X) → length (cond b (x ∷ kept) kept) ≡ cond b (suc (length kept)) (length kept)
    long true kept = refl
    long false kept = refl

    adds : below f xs (suc n) ≡ below f xs n + share f xs n → (a b c : Bool)
        → ltb (f x) (suc n) ≡ a → ltb (f x) n ≡ b → eqb (f x) n ≡ c
        → ((k m s : ℕ) → k ≡ m + s → cond a (suc k) k ≡ cond b (suc m) m + cond c (suc s) s)
        → below f (x ∷ xs) (suc n) ≡ below f (x ∷ xs) n + share f (x ∷ xs) n
    adds rest a b c is_a is_b is_c one =
        rw (
          is_a,
          is_b,
          is_c,
          long a (filter (λ y. ltb (f y) (suc n)) xs),
          long b (filter (λ y. ltb (f y) n) xs),
          long c (filter (λ y. eqb (f y) n) xs),
        ) (one (below f xs (suc n)) (below f xs n) (share f xs n) rest)

none_below : {X : Type 0} (f : X → ℕ) (xs : List X) → below f xs 0 ≡ 0
none_below f [] = refl
none_below f (x ∷ xs) =
    ap (λ b. length (cond b (x ∷ filter (λ y. ltb (f y) 0) xs) (filter (λ y. ltb (f y) 0) xs)))
    (le-ltb (f x) 0 (omega arith)) ∙ none_below f xs

shared : {X : Type 0} (f : X → ℕ) (xs : List X) (n : ℕ) → total (share f xs) n ≡ below f xs n
shared f xs zero = sym (none_below f xs)
shared f xs (suc n) =
    let earlier = shared f xs n in
    let last = one_more f xs n in
    omega (arith, earlier, last)

few_below : {X : Type 0} (f : X → ℕ) (n : ℕ) (xs : List X) → below f xs n ≤ length xs
few_below f n [] = omega arith
few_below f n (x ∷ xs) = by_test (few_below f n xs) (ltb (f x) n)
  where
    by_test : below f xs n ≤ length xs → (b : Bool)
        → length (cond b (x ∷ filter (λ y. ltb (f y) n) xs) (filter (λ y. ltb (f y) n) xs)) ≤ suc (length xs)
    by_test rest true = omega (arith, rest)
    by_test rest false = omega (arith, rest)

all_below : {X : Type 0} (f : X → ℕ) (n : ℕ) (xs : List X) → All (λ x. f x < n) xs → below f xs n ≡ length xs
all_below f n [] all = refl
all_below f n (x ∷ xs) all =
    let first = All-head (λ (y : _). f y < n) x xs all in
    ap (λ b. length (cond b (x ∷ filter (λ y. ltb (f y) n) xs) (filter (λ y. ltb (f y) n) xs))) (lt-ltb (f x) n first)
    ∙ ap suc (all_below f n xs (All-tail (λ (y : _). f y < n) x xs all))

-- the shares are at most all items, and all of them where each item's number is below the bound
pub shares_few : {X : Type 0} (f : X → ℕ) (xs : List X) (n : ℕ) → total (share f xs) n ≤ length xs
shares_few f xs n =
    let all = shared f xs n in
    let few = few_below f n xs in
    omega (arith, all, few)

-- the shares of a list below n, summed, are all of it
pub shares_all : {X : Type 0} (f : X → ℕ) (xs : List X) (n : ℕ) → All (λ x. f x < n) xs
    → total (share f xs) n ≡ length xs
shares_all f xs n all = shared f xs n ∙ all_below f n xs all
