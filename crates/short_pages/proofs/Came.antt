-- The codes that came whole: octets of 0 after those that came change none of them.
use Rattle.std.proofs.Common.{◌≡◌, ℕ, ◌+◌, ◌*◌, ◌/◌, ◌%◌, zero, suc, List, [], ◌∷◌, ◌++◌, length, get_or}
use Rattle.std.proofs.Common.{take, replicate, refl, ap, arith}
use Rattle.std.specs.Int.{bit_at}
use Rattle.septets.specs.Packing.{unpacked}
use Rattle.septets.proofs.PackingLaws.{spare_bits_are_ignored}
use Rattle.ucs2_text.specs.Ucs2.{units_of_octets}

get_or-zeros : (n i : ℕ) → get_or {A = ℕ} (replicate n 0) i 0 ≡ 0
get_or-zeros zero i = refl
get_or-zeros (suc n) zero = refl
get_or-zeros (suc n) (suc i) = get_or-zeros n i

get_or-padded : (octets : List ℕ) (n i : ℕ) → get_or (octets ++ replicate n 0) i 0 ≡ get_or octets i 0
get_or-padded [] n i = get_or-zeros n i
get_or-padded (octet ∷ octets) n zero = refl
get_or-padded (octet ∷ octets) n (suc i) = get_or-padded octets n i

-- the septets of octets, with any octets of 0 after them
pub unpacked-padded : (octets : List ℕ) (n : ℕ) → unpacked (octets ++ replicate n 0) ≡ unpacked octets
unpacked-padded octets n =
    spare_bits_are_ignored (octets ++ replicate n 0) octets
    (λ i within. ap (λ octet. bit_at octet (i % 8)) (get_or-padded octets n (i / 8)))

-- the units of the first octets, whatever follows
pub units-front : (octets more : List ℕ) → take (length octets / 2) (units_of_octets (octets ++ more))
    ≡ units_of_octets octets
units-front [] more = refl
units-front (high ∷ []) more = refl
units-front (high ∷ low ∷ rest) more =
    let half : suc (suc (length rest)) / 2 ≡ suc (length rest / 2) = omega arith in
    rw half (ap (λ units. (256 * high + low) ∷ units) (units-front rest more))
