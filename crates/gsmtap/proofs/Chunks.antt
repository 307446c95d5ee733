-- Lists cut into chunks of one length are these chunks, one after another.
use Rattle.std.proofs.Common.{◌≡◌, ℕ, ◌*◌, List, [], ◌∷◌, ◌++◌, length, take, drop, zero, suc, refl, sym, ap, ◌∙◌}
use Rattle.std.proofs.Common.{arith}
use Rattle.std.specs.List.{flat_map, AllByRecursion}
use Rattle.std.specs.Simd.{first_chunks}
use Rattle.std.proofs.lemmas.List.{length-drop, length-take-le, nil_from_length, take-append-drop}

-- pieces of one length, joined, are the whole
pub chunks_joined : (n k : ℕ) (xs : List ℕ) → length xs ≡ n * k → flat_map (λ chunk. chunk) (first_chunks n k xs) ≡ xs
chunks_joined n zero xs whole = sym (nil_from_length xs (omega (arith, whole)))
chunks_joined n (suc k) xs whole =
    ap (λ rest. take n xs ++ rest) (chunks_joined n k (drop n xs) (omega (arith, length-drop n xs, whole)))
    ∙ take-append-drop n xs

-- so many pieces are as many
pub chunks_long : (n k : ℕ) (xs : List ℕ) → length (first_chunks n k xs) ≡ k
chunks_long n zero xs = refl
chunks_long n (suc k) xs = ap suc (chunks_long n k (drop n xs))

-- each piece has the length
pub chunks_each : (n k : ℕ) (xs : List ℕ) → length xs ≡ n * k →
    AllByRecursion (λ chunk. length chunk ≡ n) (first_chunks n k xs)
chunks_each n zero xs whole = tt
chunks_each n (suc k) xs whole =
    (length-take-le n xs (omega (arith, whole)), chunks_each n k (drop n xs) (omega (arith, length-drop n xs, whole)))

-- what holds of each of two lists
pub each-append : (P : List ℕ → Type 0) (front rest : List (List ℕ)) → AllByRecursion P front → AllByRecursion P rest →
    AllByRecursion P (front ++ rest)
each-append P [] rest first second = second
each-append P (x ∷ front) rest first second = (first.0, each-append P front rest first.1 second)
