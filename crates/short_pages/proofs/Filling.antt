-- What fills a page after its codes changes no text.
use Rattle.std.proofs.Common.{◌≡◌, ℕ, ◌+◌, ◌-◌, zero, suc, List, [], ◌∷◌, ◌++◌, length, replicate, ap, sym, ◌∙◌}
use Rattle.std.proofs.Common.{append_assoc, append-nil, arith}
use Rattle.std.specs.List.{prefix_len, suffix_len}
use Rattle.std.proofs.lemmas.List.{length-append, length-replicate, reverse-append, take-append-le}
use Rattle.cbs_page.specs.Text.{is_filling, without_trailing}

one_more : (codes : List ℕ) → suffix_len is_filling (codes ++ 13 ∷ []) ≡ suffix_len is_filling codes + 1
one_more codes =
    let sum : 1 + suffix_len is_filling codes ≡ suffix_len is_filling codes + 1 = omega arith in
    ap (prefix_len is_filling) (reverse-append codes (13 ∷ [])) ∙ sum

suffix-filled : (n : ℕ) (codes : List ℕ)
    → suffix_len is_filling (codes ++ replicate n 13) ≡ suffix_len is_filling codes + n
suffix-filled zero codes =
    let sum : suffix_len is_filling codes ≡ suffix_len is_filling codes + 0 = omega arith in
    ap (suffix_len is_filling) (append-nil codes) ∙ sum
suffix-filled (suc n) codes =
    let more : suffix_len is_filling ((codes ++ 13 ∷ []) ++ replicate n 13)
    ≡ suffix_len is_filling (codes ++ 13 ∷ []) + n = suffix-filled n (codes ++ 13 ∷ []) in
    let sum : suffix_len is_filling (codes ++ 13 ∷ []) + n ≡ suffix_len is_filling codes + suc n =
    omega (arith, one_more codes) in
    ap (suffix_len is_filling) (sym (append_assoc codes (13 ∷ []) (replicate n 13))) ∙ more ∙ sum

-- codes without the CR at their end, whatever CR follows them
pub without_trailing-filled : (n : ℕ) (codes : List ℕ)
    → without_trailing is_filling (codes ++ replicate n 13) ≡ without_trailing is_filling codes
without_trailing-filled n codes =
    let left : length (codes ++ replicate n 13) - suffix_len is_filling (codes ++ replicate n 13)
    ≡ length codes - suffix_len is_filling codes =
    omega (
      arith,
      suffix-filled n codes,
      length-append codes (replicate n 13),
      length-replicate {A = ℕ} n 13,
    ) in
    rw left
    (take-append-le (length codes - suffix_len is_filling codes) codes (replicate n 13) (omega arith))
