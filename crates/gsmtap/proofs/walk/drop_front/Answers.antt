use Rattle.std.proofs.Common.{◌≡◌, ℕ, ◌+◌, ◌-◌, ◌≤◌, ◌∙◌, List, drop, length, length-drop, take, ap, arith}
use Rattle.std.proofs.Math.Seq.{paste}
use Rattle.std.proofs.lemmas.List.{take_all}
use Rattle.std.proofs.lemmas.List.Edits.{take-paste}

moved : (xs : List ℕ) (count : ℕ) → count ≤ length xs →
    take (length xs - count) (paste xs 0 (drop count xs) (length xs - count)) ≡ drop count xs
moved xs count few =
    let rest : ℕ = length xs - count in
    let many : length (drop count xs) ≡ rest = length-drop count xs in
    let same : rest ≡ 0 + rest = omega arith in
    ap (λ n. take n (paste xs 0 (drop count xs) rest)) same
    ∙ take-paste xs 0 (drop count xs) rest (omega arith) (omega (arith, many))
    ∙ take_all rest (drop count xs) (omega (arith, many))
