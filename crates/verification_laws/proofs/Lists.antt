-- What is found in lists, and counted in a part of one.
use Rattle.std.proofs.Common.{◌≡◌, ℕ, zero, suc, ◌+◌, ◌-◌, ◌<◌, ◌≤◌, Bool, true, false, cond, List, [], ◌∷◌, length}
use Rattle.std.proofs.Common.{map, filter, take, drop, get_or, count_by, refl, sym, ap, ◌∙◌, arith, inl, inr, subst}
use Rattle.std.specs.Prelude.{◌&&◌, ◌||◌, ◌⊎◌}
use Rattle.std.specs.List.{list_all, list_any, range_with_len, slice_range}
use Rattle.std.proofs.lemmas.List.{get_or-drop, length-drop}
use Rattle.std.proofs.lemmas.List.Sums.{sum_by-cons}

-- a search among the seen ones of those that pass a test
any-here : {X Y : Type 0} (p : X → Bool) (q : Y → Bool) (f : X → Y) (xs : List X) (x : X) (here : Bool) →
    list_any q (map f (filter p xs)) ≡ list_any (λ y. p y && q (f y)) xs →
    list_any q (map f (cond here (x ∷ filter p xs) (filter p xs)))
    ≡ ((here && q (f x)) || list_any (λ y. p y && q (f y)) xs)
any-here p q f xs x true is = ap (λ (rest : Bool). q (f x) || rest) is
any-here p q f xs x false is = is

-- an image of an item that is kept passes exactly if such an item does
pub any-seen : {X Y : Type 0} (p : X → Bool) (q : Y → Bool) (f : X → Y) (xs : List X) →
    list_any q (map f (filter p xs)) ≡ list_any (λ x. p x && q (f x)) xs
any-seen p q f [] = refl
any-seen p q f (x ∷ xs) = any-here p q f xs x (p x) (any-seen p q f xs)

-- each number of a range passes
pub all-range : (test : ℕ → Bool) (a n : ℕ) → ((k : ℕ) → a ≤ k → k < a + n → test k ≡ true) →
    list_all test (range_with_len a n) ≡ true
all-range test a zero passes = refl
all-range test a (suc n) passes =
    ap (λ here. here && list_all test (range_with_len (a + 1) n)) (passes a (omega arith) (omega arith))
    ∙ all-range test (a + 1) n (λ k low high. passes k (omega arith) (omega arith))

-- what is counted is there
some-here : (here : Bool) (n : ℕ) → 0 < cond here 1 0 + n → (here ≡ true) ⊎ (0 < n)
some-here true n some = inl refl
some-here false n some = inr (omega arith)

some-counted : {X : Type 0} (test : X → Bool) (xs : List X) (d : X) → 0 < count_by test xs →
    (k : ℕ) × (k < length xs) × (test (get_or xs k d) ≡ true)
some-counted test [] d some = absurd (let less : ⊥ = omega arith in less)
some-counted test (x ∷ xs) d some =
    elim (some-here (test x) (count_by test xs)
    (subst (λ n. 0 < n) (sum_by-cons (λ y. cond (test y) 1 0) x xs) some)) [
      | inl passes ↦ (0, omega arith, passes)
      | inr rest ↦
          let later = some-counted test xs d rest in
          (suc later.0, omega (arith, later.1), later.2)
    ]

front-of : {X : Type 0} (n : ℕ) (xs : List X) (k : ℕ) (d : X) → k < length (take n xs) →
    (k < n) × (k < length xs) × (get_or (take n xs) k d ≡ get_or xs k d)
front-of zero xs k d within = absurd (let less : ⊥ = omega arith in less)
front-of (suc n) [] k d within = absurd (let less : ⊥ = omega arith in less)
front-of (suc n) (x ∷ xs) zero d within = (omega arith, omega arith, refl)
front-of (suc n) (x ∷ xs) (suc k) d within =
    let h = front-of n xs k d (omega arith) in
    (omega (arith, h.0), omega (arith, h.1), h.2)

-- an item between two places passes, if one is counted there
pub some-between : {X : Type 0} (test : X → Bool) (xs : List X) (from to : ℕ) (d : X) →
    0 < count_by test (slice_range xs from to) →
    (k : ℕ) × (from ≤ k) × (k < to) × (k < length xs) × (test (get_or xs k d) ≡ true)
some-between test xs from to d some =
    let there = some-counted test (slice_range xs from to) d some in
    let h = front-of (to - from) (drop from xs) there.0 d there.1 in
    let long = length-drop from xs in (
      from + there.0,
      omega arith,
      omega (arith, h.0),
      omega (arith, h.1, long),
      ap test (sym (h.2 ∙ get_or-drop from xs there.0 d)) ∙ there.2,
    )
