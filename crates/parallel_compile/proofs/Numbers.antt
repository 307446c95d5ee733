-- How often a number stands among those below n, and among the numbers of pieces.
use Rattle.std.proofs.Common.{◌≡◌, ◌≢◌, ℕ, zero, suc, ◌+◌, ◌<◌, ◌≤◌, List, [], ◌∷◌, ◌++◌, if◌then◌else◌}
use Rattle.std.proofs.Common.{ne_eqb, ap, ◌∙◌, inl, inr, arith}
use Rattle.std.proofs.lemmas.Bool.{cases_lt, eq-eqb}
use Rattle.std.proofs.lemmas.List.{map-append}
use Rattle.tickets.specs.Draws.{times, numbers_below}
use Rattle.tickets.proofs.Totals.{times_append, is_below}
use Rattle.parallel_compile.specs.Gathered.{piece_numbers}

-- no number from n on stands among those below n
pub none_from : (x n : ℕ) → n ≤ x → times x (numbers_below n) ≡ 0
none_from x n from = elim (cases_lt 0 (times x (numbers_below n))) [
  | inl some ↦ let below : x < n = is_below x n some in absurd (omega arith)
  | inr none ↦ omega arith
]

-- a number stands once in the list of it alone
pub counts_itself : (x y : ℕ) → x ≡ y → times x (y ∷ []) ≡ 1
counts_itself x y same = ap (λ b. (if b then 1 else 0) + 0) (eq-eqb x y same)

-- and no other stands there
pub counts_no_other : (x y : ℕ) → x ≢ y → times x (y ∷ []) ≡ 0
counts_no_other x y apart = ap (λ b. (if b then 1 else 0) + 0) (ne_eqb x y apart)

-- each number below n stands there once
pub once_below : (x n : ℕ) → x < n → times x (numbers_below n) ≡ 1
once_below x zero less = absurd (omega arith)
once_below x (suc n) less =
    let sum : times x (numbers_below n ++ n ∷ []) ≡ times x (numbers_below n) + times x (n ∷ []) =
    times_append x (numbers_below n) (n ∷ []) in
    elim (cases_lt x n) [
      | inl under ↦
          let before : times x (numbers_below n) ≡ 1 = once_below x n under in
          let last : times x (n ∷ []) ≡ 0 = counts_no_other x n (λ same. absurd (omega arith)) in
          omega arith
      | inr from ↦
          let before : times x (numbers_below n) ≡ 0 = none_from x n from in
          let last : times x (n ∷ []) ≡ 1 = counts_itself x n (omega arith) in
          omega arith
    ]

-- one more piece
pub numbers_more : (pieces : List (ℕ × List ℕ)) (i : ℕ) (t : List ℕ)
    → piece_numbers (pieces ++ (i, t) ∷ []) ≡ piece_numbers pieces ++ i ∷ []
numbers_more pieces i t = map-append (λ (piece : ℕ × List ℕ). piece.0) pieces ((i, t) ∷ [])

-- a piece more has its number once more
pub counts_more : (pieces : List (ℕ × List ℕ)) (i : ℕ) (t : List ℕ) (x : ℕ) → x ≡ i
    → times x (piece_numbers (pieces ++ (i, t) ∷ [])) ≡ times x (piece_numbers pieces) + 1
counts_more pieces i t x same =
    ap (times x) (numbers_more pieces i t) ∙ times_append x (piece_numbers pieces) (i ∷ [])
    ∙ ap (λ k. times x (piece_numbers pieces) + k) (counts_itself x i same)

-- and no other number
pub counts_same : (pieces : List (ℕ × List ℕ)) (i : ℕ) (t : List ℕ) (x : ℕ) → x ≢ i
    → times x (piece_numbers (pieces ++ (i, t) ∷ [])) ≡ times x (piece_numbers pieces)
counts_same pieces i t x apart =
    let more : times x (piece_numbers (pieces ++ (i, t) ∷ [])) ≡ times x (piece_numbers pieces) + times x (i ∷ []) =
    ap (times x) (numbers_more pieces i t) ∙ times_append x (piece_numbers pieces) (i ∷ []) in
    let none : times x (i ∷ []) ≡ 0 = counts_no_other x i apart in
    omega arith

-- a piece more makes no number rarer
pub no_fewer : (pieces : List (ℕ × List ℕ)) (i : ℕ) (t : List ℕ) (x : ℕ)
    → times x (piece_numbers pieces) ≤ times x (piece_numbers (pieces ++ (i, t) ∷ []))
no_fewer pieces i t x =
    let more : times x (piece_numbers (pieces ++ (i, t) ∷ [])) ≡ times x (piece_numbers pieces) + times x (i ∷ []) =
    ap (times x) (numbers_more pieces i t) ∙ times_append x (piece_numbers pieces) (i ∷ []) in
    omega arith
