-- How often a number stands in a list, and sums over views.
use Rattle.std.proofs.Common.{◌≡◌, ℕ, zero, suc, ◌+◌, ◌<◌, ◌≤◌, ◌==◌, List, [], ◌∷◌, ◌++◌, set, if◌then◌else◌, ne_eqb}
use Rattle.std.proofs.Common.{refl, sym, ap, arith}
use mathlib.Core.Option.{some, some-injective, some-ne-none}
use mathlib.Core.Logic.{dite}
use native.Mathlib.Decide.{ℕ_discrete}
use lib.ListN.{get_elem?}
use Rattle.tickets.specs.declared.view.View.{View}
use Rattle.tickets.specs.Draws.{times, numbers_below}
use Rattle.tickets.specs.Rule.{total}

-- a number stands in two lists as often as in both
pub times_append : (x : ℕ) (xs ys : List ℕ) → times x (xs ++ ys) ≡ times x xs + times x ys
times_append x [] ys = omega arith
times_append x (y ∷ xs) ys =
    let more : times x (xs ++ ys) ≡ times x xs + times x ys = times_append x xs ys in
    let one : ℕ = if x == y then 1 else 0 in
    let goal : one + times x (xs ++ ys) ≡ one + times x xs + times x ys = omega arith in
    goal

-- what stands among the numbers below n is below n
pub is_below : (x n : ℕ) → 0 < times x (numbers_below n) → x < n
is_below x zero there = absurd (omega arith)
is_below x (suc n) there =
    dite (ℕ_discrete x n)
    (λ same. omega arith)
    (λ apart.
    let none : times x (n ∷ []) ≡ 0 = ap (λ b. (if b then 1 else 0) + 0) (ne_eqb x n apart) in
    let parts : times x (numbers_below n ++ n ∷ []) ≡ times x (numbers_below n) + times x (n ∷ []) = times_append x
    (numbers_below n) (n ∷ []) in
    let less : x < n = is_below x n (omega arith) in
    omega arith)

-- a total after one view changed
pub total_set : (of : View → ℕ) (l : List View) (i : ℕ) (v w : View) → get_elem? l i ≡ some v
    → total of (set l i w) + of v ≡ total of l + of w
total_set of [] i v w e = absurd (some-ne-none v (sym e))
total_set of (x ∷ xs) zero v w e = let same : of x ≡ of v = ap of (some-injective x v e) in omega arith
total_set of (x ∷ xs) (suc i) v w e =
    let rest : total of (set xs i w) + of v ≡ total of xs + of w = total_set of xs i v w e in
    omega arith

-- a total grows by what one view grows
pub total_more : (of : View → ℕ) (l : List View) (i : ℕ) (v w : View) (k : ℕ) → get_elem? l i ≡ some v
    → of w ≡ of v + k → total of (set l i w) ≡ total of l + k
total_more of l i v w k e more =
    let sum : total of (set l i w) + of v ≡ total of l + of w = total_set of l i v w e in
    omega arith

-- a total stays as it is if the view that changed counts the same
pub total_same : (of : View → ℕ) (l : List View) (i : ℕ) (v w : View) → get_elem? l i ≡ some v
    → of w ≡ of v → total of (set l i w) ≡ total of l
total_same of l i v w e same =
    let sum : total of (set l i w) + of v ≡ total of l + of w = total_set of l i v w e in
    omega arith

-- a total of one view more
pub total_snoc : (of : View → ℕ) (l : List View) (w : View) → total of (l ++ w ∷ []) ≡ total of l + of w
total_snoc of [] w = omega arith
total_snoc of (x ∷ xs) w =
    let rest : total of (xs ++ w ∷ []) ≡ total of xs + of w = total_snoc of xs w in
    omega arith

-- one view's part of a sum
pub total_has : (of : View → ℕ) (l : List View) (i : ℕ) (v : View) → get_elem? l i ≡ some v → of v ≤ total of l
total_has of [] i v e = absurd (some-ne-none v (sym e))
total_has of (x ∷ xs) zero v e = let same : of x ≡ of v = ap of (some-injective x v e) in omega arith
total_has of (x ∷ xs) (suc i) v e = let rest : of v ≤ total of xs = total_has of xs i v e in omega arith

-- a total of less is at most that of more
pub total_less : (of by : View → ℕ) (l : List View)
    → ((i : ℕ) (v : View) → get_elem? l i ≡ some v → of v ≤ by v) → total of l ≤ total by l
total_less of by [] each = omega arith
total_less of by (x ∷ xs) each =
    let first : of x ≤ by x = each 0 x refl in
    let rest : total of xs ≤ total by xs = total_less of by xs (λ i v e. each (suc i) v e) in
    omega arith

-- no view has anything
pub total_none : (of : View → ℕ) (l : List View) → ((i : ℕ) (v : View) → get_elem? l i ≡ some v → of v ≡ 0)
    → total of l ≡ 0
total_none of [] each = refl
total_none of (x ∷ xs) each =
    let first : of x ≡ 0 = each 0 x refl in
    let rest : total of xs ≡ 0 = total_none of xs (λ i v e. each (suc i) v e) in
    omega arith

-- Where one view has the whole sum of parts, and who has no part has nothing, that view has everything.
pub total_alone : (parts of : View → ℕ) (l : List View) (i : ℕ) (v : View) → get_elem? l i ≡ some v
    → ((j : ℕ) (u : View) → get_elem? l j ≡ some u → parts u ≡ 0 → of u ≡ 0)
    → total parts l ≡ parts v → total of l ≡ of v
total_alone parts of [] i v e each whole = absurd (some-ne-none v (sym e))
total_alone parts of (x ∷ xs) zero v e each whole =
    let same : of x ≡ of v = ap of (some-injective x v e) in
    let known : parts x ≡ parts v = ap parts (some-injective x v e) in
    let none : total of xs ≡ 0 = total_none of xs (λ j u at.
    let has : parts u ≤ total parts xs = total_has parts xs j u at in each (suc j) u at (omega arith)) in
    omega arith
total_alone parts of (x ∷ xs) (suc i) v e each whole =
    let has : parts v ≤ total parts xs = total_has parts xs i v e in
    let first : of x ≡ 0 = each 0 x refl (omega arith) in
    let rest : total of xs ≡ of v = total_alone parts of xs i v e (λ j u at. each (suc j) u at) (omega arith) in
    omega arith
