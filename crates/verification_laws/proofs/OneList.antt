-- A list that is sorted by an order in which no two elements tie is the only one of its elements.
use Rattle.std.proofs.Common.{◌≡◌, ◌<◌, ◌+◌, ◌∙◌, ℕ, Bool, true, false, cond, List, [], ◌∷◌, length, suc}
use Rattle.std.proofs.Common.{get_or, refl, subst, sym, ap, arith}
use Rattle.std.specs.Prelude.{not, ◌&&◌}
use Rattle.std.specs.List.{sum_by}
use Rattle.std.specs.List.Sorted.{IsPermutation, IsSortedBy, ties}
use Rattle.std.specs.Cmp.{IsStrictWeakOrder}
use Rattle.std.proofs.lemmas.List.Sorted.{sorted_far, sum_by-IsPermutation}
use Rattle.std.proofs.lemmas.List.Sums.{sum_by-cons}

-- 1 for an element that ties
abbrev tally : {X : Type 0} → (X → X → Bool) → X → X → ℕ
tally lt x y = cond (ties lt x y) 1 0

left-false : (a b : Bool) → (not a && not b) ≡ true → a ≡ false
left-false false b holds = refl
left-false true b holds = cc

-- an element that a list has isn't above one below which nothing of the list is
none-below : {X : Type 0} (lt : X → X → Bool) → IsStrictWeakOrder lt → (x y : X) (zs : List X) →
    ((k : ℕ) (d : X) → k < length zs → lt (get_or zs k d) y ≡ false) → 0 < sum_by (tally lt x) zs → lt x y ≡ false
none-below lt o x y [] least some = absurd (let none : ⊥ = omega arith in none)
none-below lt o x y (z ∷ zs) least some =
    by_tie (ties lt x z) refl
    (λ is.
    let sum : sum_by (tally lt x) (z ∷ zs) ≡ tally lt x z + sum_by (tally lt x) zs = sum_by-cons (tally lt x) z zs in
    let no : tally lt x z ≡ 0 = ap (λ (b : Bool). cond b 1 0) is in
    none-below lt o x y zs (λ k d within. least (suc k) d (omega arith)) (omega (arith, sum, no, some)))
  where
    by_tie : (tie : Bool) → ties lt x z ≡ tie → (ties lt x z ≡ false → lt x y ≡ false) → lt x y ≡ false
    by_tie true is later = o.chain x z y (left-false (lt x z) (lt z x) is) (least 0 z (omega arith))
    by_tie false is later = later is

-- an element ties with itself
self : {X : Type 0} (lt : X → X → Bool) → IsStrictWeakOrder lt → (x : X) → tally lt x x ≡ 1
self lt o x = by_test (lt x x) refl
  where
    by_test : (below : Bool) → lt x x ≡ below → tally lt x x ≡ 1
    by_test true is =
        let not_below : lt x x ≡ false = o.one_way x x is in
        ap (λ (b : Bool). cond (not b && not b) 1 0) not_below
    by_test false is = ap (λ (b : Bool). cond (not b && not b) 1 0) is

-- the first element of a list counts
counted : {X : Type 0} (lt : X → X → Bool) → IsStrictWeakOrder lt → (x : X) (xs : List X) →
    0 < sum_by (tally lt x) (x ∷ xs)
counted lt o x xs =
    let sum : sum_by (tally lt x) (x ∷ xs) ≡ tally lt x x + sum_by (tally lt x) xs = sum_by-cons (tally lt x) x xs in
    let one : tally lt x x ≡ 1 = self lt o x in
    omega (arith, sum, one)

-- what follows the first element of a sorted list is sorted
rest-sorted : {X : Type 0} (lt : X → X → Bool) (x : X) (xs : List X) → IsSortedBy lt (x ∷ xs) → IsSortedBy lt xs
rest-sorted lt x xs up k d low high =
    let next : suc k + 1 ≡ suc (k + 1) = omega arith in
    subst (λ (n : ℕ). lt (get_or (x ∷ xs) n d) (get_or xs k d) ≡ false) next (up (suc k) d (omega arith) (omega arith))

-- two lists that are sorted and have the same elements are one
one-by-counts : {X : Type 0} (lt : X → X → Bool) → IsStrictWeakOrder lt →
    ((x y : X) → lt x y ≡ false → lt y x ≡ false → x ≡ y) → (xs ys : List X) → IsSortedBy lt xs → IsSortedBy lt ys →
    ((x : X) → sum_by (tally lt x) xs ≡ sum_by (tally lt x) ys) → xs ≡ ys
one-by-counts lt o alike [] [] up also same = refl
one-by-counts lt o alike [] (y ∷ ys) up also same =
    let some : 0 < sum_by (tally lt y) (y ∷ ys) = counted lt o y ys in
    let none : 0 ≡ sum_by (tally lt y) (y ∷ ys) = same y in
    absurd (let wrong : ⊥ = omega (arith, some, none) in wrong)
one-by-counts lt o alike (x ∷ xs) [] up also same =
    let some : 0 < sum_by (tally lt x) (x ∷ xs) = counted lt o x xs in
    let none : sum_by (tally lt x) (x ∷ xs) ≡ 0 = same x in
    absurd (let wrong : ⊥ = omega (arith, some, none) in wrong)
one-by-counts lt o alike (x ∷ xs) (y ∷ ys) up also same =
    let x_counts : 0 < sum_by (tally lt x) (x ∷ xs) = counted lt o x xs in
    let x_is : sum_by (tally lt x) (x ∷ xs) ≡ sum_by (tally lt x) (y ∷ ys) = same x in
    let y_counts : 0 < sum_by (tally lt y) (y ∷ ys) = counted lt o y ys in
    let y_is : sum_by (tally lt y) (x ∷ xs) ≡ sum_by (tally lt y) (y ∷ ys) = same y in
    let here : x ≡ y = alike x y
    (none-below lt o x y (y ∷ ys) (λ k d within. sorted_far lt o (y ∷ ys) also 0 k d (omega arith) within)
    (omega (arith, x_counts, x_is)))
    (none-below lt o y x (x ∷ xs) (λ k d within. sorted_far lt o (x ∷ xs) up 0 k d (omega arith) within)
    (omega (arith, y_counts, y_is))) in
    ap (λ z. z ∷ xs) here
    ∙ ap (λ zs. y ∷ zs)
    (one-by-counts lt o alike xs ys (rest-sorted lt x xs up) (rest-sorted lt y ys also)
    (λ z.
    let one : sum_by (tally lt z) (x ∷ xs) ≡ tally lt z x + sum_by (tally lt z) xs = sum_by-cons (tally lt z) x xs in
    let two : sum_by (tally lt z) (y ∷ ys) ≡ tally lt z y + sum_by (tally lt z) ys = sum_by-cons (tally lt z) y ys in
    let both : sum_by (tally lt z) (x ∷ xs) ≡ sum_by (tally lt z) (y ∷ ys) = same z in
    let heads : tally lt z x ≡ tally lt z y = ap (tally lt z) here in
    omega (arith, one, two, both, heads)))

-- so a sort has one answer
pub one-list : {X : Type 0} (lt : X → X → Bool) → IsStrictWeakOrder lt →
    ((x y : X) → lt x y ≡ false → lt y x ≡ false → x ≡ y) → (all xs ys : List X) → IsPermutation all xs →
    IsPermutation all ys → IsSortedBy lt xs → IsSortedBy lt ys → xs ≡ ys
one-list lt o alike all xs ys moved also_moved up also =
    one-by-counts lt o alike xs ys up also
    (λ x. sum_by-IsPermutation (tally lt x) all xs moved ∙ sym (sum_by-IsPermutation (tally lt x) all ys also_moved))
