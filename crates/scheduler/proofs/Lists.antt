-- Lemmas on lists.
use Rattle.std.proofs.Common.{◌≡◌, ◌≢◌, ℕ, zero, suc, ◌+◌, ◌<◌, Bool, true, false, cond, List, [], ◌∷◌, ◌++◌}
use Rattle.std.proofs.Common.{length, get_or, map, count_by, inl, inr, refl, sym, ap, ◌∙◌, arith}
use Rattle.std.proofs.Math.Nat.{add-zero}
use Rattle.std.specs.Bool.{MatchBool}
use Rattle.std.specs.List.{All, AllPairs, range_with_len, Any}
use Rattle.std.proofs.lemmas.List.{get_or-map, length-map}
use Rattle.std.proofs.lemmas.List.Quantifiers.{all_pairs_push}
use Rattle.std.proofs.lemmas.List.Sums.{sum_by_push}
use Rattle.std.proofs.lemmas.Bool.{cases_order, cases_eq}

-- in a list whose numbers rise, equal numbers are at one place
pub rising-same : {X : Type 0} (f : X → ℕ) (xs : List X) → AllPairs (λ a b. f a < f b) xs → (i j : ℕ) (d : X)
    → i < length xs → j < length xs → f (get_or xs i d) ≡ f (get_or xs j d) → i ≡ j
rising-same f xs rising i j d hi hj e =
    elim (cases_order i j) [
      | inl same ↦ same
      | inr apart ↦ elim apart [
        | inl before ↦ absurd (let r = rising i j d before hj in omega arith)
        | inr after ↦ absurd (let r = rising j i d after hi in omega arith)
      ]
    ]

-- one where the test passed
abbrev one_if : Bool → ℕ
one_if b = cond b 1 0

-- the numbers from a on, with one more
pub range_push : (a n : ℕ) → range_with_len a (suc n) ≡ range_with_len a n ++ (a + n) ∷ []
range_push a zero = ap (λ x. x ∷ []) (sym (add-zero a))
range_push a (suc n) =
    let here : (a + 1) + n ≡ a + suc n = omega arith in
    ap (λ xs. a ∷ xs) (range_push (a + 1) n ∙ ap (λ x. range_with_len (a + 1) n ++ x ∷ []) here)

-- a count over the numbers below suc n
pub count_below_more : (p : ℕ → Bool) (n : ℕ) → count_by p (range_with_len 0 (suc n)) ≡ count_by p (range_with_len 0 n)
    + cond (p n) 1 0
count_below_more p n =
    let here : 0 + n ≡ n = omega arith in
    ap (count_by p) (range_push 0 n) ∙ (sum_by_push (λ j. cond (p j) 1 0) (range_with_len 0 n) (0 + n)
    ∙ ap (λ j. count_by p (range_with_len 0 n) + cond (p j) 1 0) here)

-- tests that agree below n count the same
pub count_below_same : (p q : ℕ → Bool) (n : ℕ) → ((j : ℕ) → j < n → p j ≡ q j)
    → count_by p (range_with_len 0 n) ≡ count_by q (range_with_len 0 n)
count_below_same p q zero same = refl
count_below_same p q (suc n) same =
    let before = count_below_same p q n (λ j h. same j (omega arith)) in
    let last = ap (λ (b : Bool). one_if b) (same n (omega arith)) in
    omega (arith, before, last, count_below_more p n, count_below_more q n)

-- tests that agree below n but at one place differ in their counts by that place
pub count_below_but_one : (p q : ℕ → Bool) (at n : ℕ) → at < n → ((j : ℕ) → j < n → j ≢ at → p j ≡ q j)
    → count_by p (range_with_len 0 n) + cond (q at) 1 0 ≡ count_by q (range_with_len 0 n) + cond (p at) 1 0
count_below_but_one p q at zero within same = absurd (omega arith)
count_below_but_one p q at (suc n) within same =
    elim (cases_eq at n) [
      | inl last ↦
          let before = count_below_same p q n (λ j h. same j (omega arith) (λ e. omega (arith, e, last))) in
          let ps = ap (λ j. one_if (p j)) last in
          let qs = ap (λ j. one_if (q j)) last in
          omega (arith, before, ps, qs, count_below_more p n, count_below_more q n)
      | inr apart ↦
          let before = count_below_but_one p q at n (omega (arith, apart)) (λ j h. same j (omega arith)) in
          let last = ap (λ (b : Bool). one_if b) (same n (omega arith) (λ e. apart (sym e))) in
          omega (arith, before, last, count_below_more p n, count_below_more q n)
    ]

-- a test that never passes counts nothing
pub count_below_none : (p : ℕ → Bool) (n : ℕ) → ((j : ℕ) → j < n → p j ≡ false) → count_by p (range_with_len 0 n) ≡ 0
count_below_none p zero never = refl
count_below_none p (suc n) never =
    let before = count_below_none p n (λ j h. never j (omega arith)) in
    let last = ap (λ (b : Bool). one_if b) (never n (omega arith)) in
    omega (arith, before, last, count_below_more p n)

-- numbers that rise stay so where each element's number stays
pub rising-map : {X : Type 0} (f : X → ℕ) (g : X → X) → ((x : X) → f (g x) ≡ f x) → (xs : List X)
    → AllPairs (λ a b. f a < f b) xs → AllPairs (λ a b. f a < f b) (map g xs)
rising-map f g same xs rising = λ i j d before within.
    let long = length-map xs g in
    let first = ap f (get_or-map g xs i d d (omega arith)) ∙ same (get_or xs i d) in
    let second = ap f (get_or-map g xs j d d (omega arith)) ∙ same (get_or xs j d) in
    let old = rising i j d before (omega arith) in
    omega (arith, first, second, old)

-- and where an element with a greater number follows
pub rising-push : {X : Type 0} (f : X → ℕ) (xs : List X) (x : X) → AllPairs (λ a b. f a < f b) xs
    → All (λ a. f a < f x) xs → AllPairs (λ a b. f a < f b) (xs ++ x ∷ [])
rising-push f xs x rising below = all_pairs_push (λ a b. f a < f b) xs x rising below

-- what is true of some element is true of what it is mapped to
pub Any-map : {X Y : Type 0} (P : Y → Type 0) (f : X → Y) (xs : List X) → Any (λ x. P (f x)) xs → Any P (map f xs)
Any-map P f xs some =
    let there = get_or-map f xs some.0 some.1 (f some.1) some.2 ∙ ap f some.3 in
    (some.0, f some.1, omega (arith, length-map xs f, some.2), there, some.4)

-- what follows where a test passed, and where it did not
pub MatchBool-both : (b : Bool) (P Q R S : Type 0) → (P → Q) → (R → S) → MatchBool b P R → MatchBool b Q S
MatchBool-both true P Q R S passed failed m = passed m
MatchBool-both false P Q R S passed failed m = failed m
