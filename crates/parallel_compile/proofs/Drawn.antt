-- Numbers that a seat draws rise.
use Rattle.std.proofs.Common.{◌≡◌, refl, ℕ, suc, ◌+◌, ◌-◌, ◌<◌, ◌≤◌, max, List, [], ◌∷◌, ◌++◌, arith}
use Rattle.tickets.specs.Draws.{times}
use Rattle.tickets.proofs.Totals.{times_append}
use Rattle.parallel_compile.proofs.Numbers.{counts_itself}

-- the least number that is above all of these
abbrev pub above : List ℕ → ℕ
above [] = 0
above (x ∷ xs) = max (suc x) (above xs)

stands : (x : ℕ) (xs : List ℕ) → 0 < times x (x ∷ xs)
stands x xs =
    let one : times x (x ∷ []) ≡ 1 = counts_itself x x refl in
    let sum : times x (x ∷ xs) ≡ times x (x ∷ []) + times x xs = times_append x (x ∷ []) xs in
    omega arith

-- a bound of all numbers of a list is no less than the least one
pub is_above : (xs : List ℕ) (n : ℕ) → ((x : ℕ) → 0 < times x xs → x < n) → above xs ≤ n
is_above [] n under = omega arith
is_above (x ∷ xs) n under =
    let first : x < n = under x (stands x xs) in
    let rest : above xs ≤ n = is_above xs n (λ y some. under y (omega arith)) in
    omega arith

above_more : (xs : List ℕ) (n : ℕ) → n < above (xs ++ n ∷ [])
above_more [] n = omega arith
above_more (x ∷ xs) n = let rest : n < above (xs ++ n ∷ []) = above_more xs n in omega arith

-- a number above all is drawn next, so that fewer are left
pub fewer_left : (limit n : ℕ) (xs : List ℕ) → n < limit → ((x : ℕ) → 0 < times x xs → x < n)
    → limit - above (xs ++ n ∷ []) < limit - above xs
fewer_left limit n xs within under =
    let before : above xs ≤ n = is_above xs n under in
    let after : n < above (xs ++ n ∷ []) = above_more xs n in
    omega arith
