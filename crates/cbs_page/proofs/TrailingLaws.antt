-- A list without the elements at its end that pass a test.
use Rattle.std.proofs.Common.{◌≡◌, ◌≢◌, ℕ, ◌-◌, ◌<◌, ◌≤◌, Bool, true, false, All, List, ◌++◌, length, take, get_or}
use Rattle.std.proofs.Common.{replicate, refl, sym, ap, ◌∙◌, arith, length-append, inl, inr}
use Rattle.std.specs.List.{suffix_len}
use Rattle.std.proofs.lemmas.Bool.{cases_lt, eq-eqb, ne_eqb}
use Rattle.std.proofs.lemmas.List.{get_or_append_left, get_or-append_right, get_or-replicate, get_or-take, get_or_past}
use Rattle.std.proofs.lemmas.List.{length-replicate, length-take}
use Rattle.std.proofs.lemmas.List.{take-append-le, take_all}
use Rattle.std.proofs.lemmas.List.Sums.{suffix_len_is}
use Rattle.cbs_page.specs.Text.{without_trailing, is_filling}

-- what is left is the front of n elements: each from n on passes, and the one before n does not
pub without_trailing-is : {X : Type 0} (test : X → Bool) (xs : List X) (n : ℕ) (d : X) → n ≤ length xs →
    ((k : ℕ) → n ≤ k → k < length xs → test (get_or xs k d) ≡ true) → (0 < n → test (get_or xs (n - 1) d) ≡ false) →
    without_trailing test xs ≡ take n xs
without_trailing-is test xs n d within passes stops =
    let left : length xs - suffix_len test xs ≡ n = omega (arith, suffix_len_is test xs n d within passes stops) in
    rw left refl

-- what fills a page goes, and no more
pub without_trailing-fill : (xs : List ℕ) (n : ℕ) → All (λ x. x ≢ 13) xs
    → without_trailing is_filling (xs ++ replicate n 13) ≡ xs
without_trailing-fill xs n others =
    without_trailing-is is_filling (xs ++ replicate n 13) (length xs) 0
    (omega (arith, length-append xs (replicate n 13)))
    (λ k past within.
    let at : get_or (xs ++ replicate n 13) k 0 ≡ 13 =
    get_or-append_right xs (replicate n 13) (length xs) k 0 refl past
    ∙ get_or-replicate n (k - length xs) 13 0 (omega (
      arith,
      length-append xs (replicate n 13),
      length-replicate
          {A = ℕ} n 13,
    )) in
    eq-eqb (get_or (xs ++ replicate n 13) k 0) 13 at)
    (λ some.
    let at : get_or (xs ++ replicate n 13) (length xs - 1) 0 ≡ get_or xs (length xs - 1) 0 =
    get_or_append_left xs (replicate n 13) 0 (length xs - 1) (omega arith) in
    rw at (ne_eqb (get_or xs (length xs - 1) 0) 13 (others (length xs - 1) 0 (omega arith))))
    ∙ take-append-le (length xs) xs (replicate n 13) (omega arith) ∙ take_all (length xs) xs (omega arith)

-- among what fills a page, and also past it by the default
get_or-filling : (n k : ℕ) → get_or {A = ℕ} (replicate n 13) k 13 ≡ 13
get_or-filling n k =
    elim (cases_lt k n) [
      | inl below ↦ get_or-replicate n k 13 13 below
      | inr past ↦ get_or_past (replicate n 13) k 13 (omega (arith, length-replicate {A = ℕ} n 13))
    ]

-- the front of a list's first elements is no longer than the list
pub length-front : (xs front rest : List ℕ) (end : ℕ) → take end xs ≡ front ++ rest → length front ≤ length xs
length-front xs front rest end whole =
    omega (arith, sym (length-take end xs) ∙ ap length whole ∙ length-append front rest)

-- after it, among those first elements, each fills the page if the rest of them does
pub filled-after : (xs front : List ℕ) (end n place : ℕ) → take end xs ≡ front ++ replicate n 13 → length front ≤ place
    → place < end → get_or xs place 13 ≡ 13
filled-after xs front end n place whole past below =
    sym (get_or-take end xs place 13 below) ∙ ap (λ ys. get_or ys place 13) whole
    ∙ get_or-append_right front (replicate n 13) (length front) place 13 refl past
    ∙ get_or-filling n (place - length front)
