-- The packing of a broadcast page's 7-bit characters into octets (3GPP TS 23.038, 6.1.2.2), said bit by bit.
use Rattle.std.specs.Prelude.{◌≡◌, ℕ, ◌+◌, ◌-◌, ◌*◌, ◌/◌, ◌%◌, ◌<◌, ◌≤◌, List, ◌++◌, length, map, replicate}
use Rattle.std.specs.Prelude.{slice_index, All}
use Rattle.std.specs.Int.{bit_at}
use Rattle.std.specs.List.{range_with_len}

-- bit i of the octets, lowest bit first: bit (i mod 8) of octet (i div 8)
abbrev pub octet_bit : List ℕ → ℕ → ℕ
octet_bit octets i = bit_at (slice_index octets (i / 8)) (i % 8)

-- bit i of the septets, lowest bit first: bit (i mod 7) of septet (i div 7)
abbrev pub septet_bit : List ℕ → ℕ → ℕ
septet_bit septets i = bit_at (slice_index septets (i / 7)) (i % 7)

-- the septets, then carriage return up to 93 of them: what a page is filled with (6.1.2.2)
abbrev pub filled : List ℕ → List ℕ
filled septets = septets ++ replicate (93 - length septets) 13

-- these 82 octets carry the filled septets, and their five spare bits are 0
pub record IsPacked (septets octets : List ℕ) : Type 0 where
  pub size : length octets ≡ 82
  pub in_range : All (λ octet. octet < 256) octets
  pub same_bits : (i : ℕ) → i < 651 → octet_bit octets i ≡ septet_bit (filled septets) i
  pub spare_bits : (i : ℕ) → 651 ≤ i → i < 656 → octet_bit octets i ≡ 0

-- these 93 septets are those that the octets carry; nothing is said of the spare bits
pub record IsUnpacked (octets septets : List ℕ) : Type 0 where
  pub size : length septets ≡ 93
  pub in_range : All (λ septet. septet < 128) septets
  pub same_bits : (i : ℕ) → i < 651 → octet_bit octets i ≡ septet_bit septets i

-- the number whose seven bits, lowest first, are these
abbrev pub of_seven_bits : (ℕ → ℕ) → ℕ
of_seven_bits bit =
    bit 0 + 2 * bit 1 + 4 * bit 2 + 8 * bit 3 + 16 * bit 4 + 32 * bit 5 + 64 * bit 6

-- the septet at a place: bits 7 * place to 7 * place + 6 of the octets
unfoldable pub septet_at : List ℕ → ℕ → ℕ
septet_at octets place = of_seven_bits (λ j. octet_bit octets (7 * place + j))

-- the 93 septets of 82 octets
unfoldable pub unpacked : List ℕ → List ℕ
unpacked octets = map (septet_at octets) (range_with_len 0 93)
