-- The definitions on worked values: an empty page is carriage return alone.
use Rattle.std.proofs.Common.{◌≡◌, ℕ, zero, suc, List, [], ◌∷◌, ◌++◌, replicate, refl}
use Rattle.septets.specs.Packing.{filled, unpacked, septet_at}

-- n copies of a list
copies : ℕ → List ℕ → List ℕ
copies zero xs = []
copies (suc n) xs = xs ++ copies n xs

-- the seven octets that eight carriage returns make
abbrev eight_returns : List ℕ
eight_returns = 0x8D ∷ 0x46 ∷ 0xA3 ∷ 0xD1 ∷ 0x68 ∷ 0x34 ∷ 0x1A ∷ []

filled-empty : filled [] ≡ replicate 93 0x0D
filled-empty = refl

filled-one : filled (0x18 ∷ []) ≡ 0x18 ∷ replicate 92 0x0D
filled-one = refl

unpacked-empty : unpacked (copies 11 eight_returns ++ (0x8D ∷ 0x46 ∷ 0xA3 ∷ 0xD1 ∷ 0x00 ∷ [])) ≡ filled []
unfolding unpacked septet_at copies
unpacked-empty = refl

-- the spare bits set
unpacked-spare : unpacked (copies 11 eight_returns ++ (0x8D ∷ 0x46 ∷ 0xA3 ∷ 0xD1 ∷ 0xF8 ∷ [])) ≡ filled []
unfolding unpacked septet_at copies
unpacked-spare = refl
