-- Bits of a window that is cut out of two numbers side by side, as the code cuts octets and septets.
use Rattle.std.proofs.Common.{◌≡◌, ℕ, ◌+◌, ◌-◌, ◌*◌, ◌/◌, ◌%◌, ◌^◌, ◌<◌, ◌≤◌, List, length, get_or, bit_and, bit_or}
use Rattle.std.proofs.Common.{◌≢◌}
use Rattle.std.proofs.Common.{All, sym, ap, ◌∙◌, subst, inl, inr, arith}
use Rattle.std.proofs.Common.{get_or-set_other, get_or-set_same}
use Rattle.std.proofs.Math.ListN.{set, length-set}
use Rattle.std.proofs.lemmas.List.Elements.{All-set}
use borrow.Author.Count.{below_more}
use Rattle.std.specs.Int.{bit_at}
use Rattle.std.specs.Int.Bits.{or_shifted_r}
use Rattle.std.proofs.lemmas.Nat.{and_mask, shl_whole, shr-shr, shr_split, mod_below}
use Rattle.std.proofs.lemmas.Nat.Bits.{bit_at_cat_low, bit_at_cat_high}
use Rattle.std.proofs.lemmas.Bool.{cases_lt}
use Rattle.septets.specs.Packing.{IsPacked, filled, octet_bit, septet_bit, septet_at}
use Rattle.septets.proofs.PackingLaws.{septet_bit-past, septet_bit-at, octet_bit-at, of_seven_bits-bit_at}
use Rattle.septets.proofs.PackingLaws.{of_seven_bits-same}

-- the low m bits of a number
pub bit_at-mod : (n m j : ℕ) → j < m → bit_at (n % 2 ^ m) j ≡ bit_at n j
bit_at-mod n m j below =
    sym (bit_at_cat_low (n / 2 ^ m) m (n % 2 ^ m) j below) ∙ ap (λ x. bit_at x j) (shr_split n m)

-- a number shifted down
pub bit_at-shr : (n s j : ℕ) → bit_at (n / 2 ^ s) j ≡ bit_at n (s + j)
bit_at-shr n s j = ap (λ x. x % 2) (shr-shr n s j)

-- m bits from bit s on, of high above the w bits of low
abbrev window : ℕ → ℕ → ℕ → ℕ → ℕ → ℕ
window low high w s m = (high * 2 ^ w + low) / 2 ^ s % 2 ^ m

window_low : (low high w s m j : ℕ) → j < m → s + j < w → bit_at (window low high w s m) j ≡ bit_at low (s + j)
window_low low high w s m j below within =
    bit_at-mod ((high * 2 ^ w + low) / 2 ^ s) m j below
    ∙ bit_at-shr (high * 2 ^ w + low) s j
    ∙ bit_at_cat_low high w low (s + j) within

window_high : (low high w s m j : ℕ) → j < m → low < 2 ^ w → w ≤ s + j
    → bit_at (window low high w s m) j ≡ bit_at high (s + j - w)
window_high low high w s m j below fits above =
    bit_at-mod ((high * 2 ^ w + low) / 2 ^ s) m j below
    ∙ bit_at-shr (high * 2 ^ w + low) s j
    ∙ bit_at_cat_high high w low (s + j) fits above

-- what the code computes for an octet is such a window
octet_window : (low high s : ℕ) → low < 128 → high < 128 → bit_and (bit_or low (high * 128 % 65536) / 2 ^ s) 255 ≡
    window low high 7 s 8
octet_window low high s l h =
    ap (λ x. bit_and (bit_or low x / 2 ^ s) 255) (shl_whole high 7 7 16 h (omega arith))
    ∙ ap (λ x. bit_and (x / 2 ^ s) 255) (or_shifted_r high 7 low l)
    ∙ and_mask ((high * 2 ^ 7 + low) / 2 ^ s) 8

-- what the code computes for a septet too
septet_window : (low high s : ℕ) → low < 256 → high < 256 → bit_and (bit_or low (high * 256 % 65536) / 2 ^ s) 127 ≡
    window low high 8 s 7
septet_window low high s l h =
    ap (λ x. bit_and (bit_or low x / 2 ^ s) 127) (shl_whole high 8 8 16 h (omega arith))
    ∙ ap (λ x. bit_and (x / 2 ^ s) 127) (or_shifted_r high 8 low l)
    ∙ and_mask ((high * 2 ^ 8 + low) / 2 ^ s) 7

-- what `joined` computes
pub joined_window : (low high s : ℕ) → low < 128 → high < 128
    → bit_and (bit_or low (high * 128 % 65536) / 2 ^ s) 255 ≡ (high * 128 + low) / 2 ^ s % 256
joined_window low high s l h = octet_window low high s l h

-- bit j of the octet at a place
pub packed_bit : (xs : List ℕ) (first s j low high octet : ℕ) → low ≡ get_or xs first 0
    → high ≡ get_or xs (first + 1) 0 → low < 128 → s < 7 → j < 8 → octet ≡ (high * 128 + low) / 2 ^ s % 256
    → bit_at octet j ≡ septet_bit xs (7 * first + s + j)
packed_bit xs first s j low high octet is_low is_high l in_group below is =
    ap (λ x. bit_at x j) is
    ∙ elim (cases_lt (s + j) 7) [
      | inl within ↦ window_low low high 7 s 8 j below within ∙ ap (λ x. bit_at x (s + j)) is_low
          ∙ sym (septet_bit-at xs (7 * first + s + j) first (s + j) (omega arith) (omega arith))
      | inr above ↦ window_high low high 7 s 8 j below l above
          ∙ ap (λ x. bit_at x (s + j - 7)) is_high ∙ sym
          (septet_bit-at xs (7 * first + s + j) (first + 1) (s + j - 7) (omega arith) (omega arith))
    ]

-- bit j of the septet at a place
unpacked_bit : (xs : List ℕ) (place j low high : ℕ) → low ≡ get_or xs (7 * place / 8) 0
    → high ≡ get_or xs (7 * place / 8 + 1) 0 → low < 256 → high < 256 → j < 7
    → bit_at (bit_and (bit_or low (high * 256 % 65536) / 2 ^ (7 * place % 8)) 127) j ≡ octet_bit xs (7 * place + j)
unpacked_bit xs place j low high is_low is_high l h below =
    ap (λ x. bit_at x j) (septet_window low high (7 * place % 8) l h)
    ∙ elim (cases_lt (7 * place % 8 + j) 8) [
      | inl within ↦ window_low low high 8 (7 * place % 8) 7 j below within
          ∙ ap (λ x. bit_at x (7 * place % 8 + j)) is_low ∙ sym
          (octet_bit-at xs (7 * place + j) (7 * place / 8) (7 * place % 8 + j) (omega arith) (omega arith))
      | inr above ↦ window_high low high 8 (7 * place % 8) 7 j below l above
          ∙ ap (λ x. bit_at x (7 * place % 8 + j - 8)) is_high
          ∙ sym (octet_bit-at xs (7 * place + j) (7 * place / 8 + 1) (7 * place % 8 + j - 8) (omega arith)
          (omega arith))
    ]

-- what the code computes for a septet is the septet of its bits
pub unpacked_value : (xs : List ℕ) (place low high : ℕ) → low ≡ get_or xs (7 * place / 8) 0
    → high ≡ get_or xs (7 * place / 8 + 1) 0 → low < 256 → high < 256
    → bit_and (bit_or low (high * 256 % 65536) / 2 ^ (7 * place % 8)) 127 ≡ septet_at xs place
unfolding septet_at
unpacked_value xs place low high is_low is_high l h =
    let word : ℕ = bit_and (bit_or low (high * 256 % 65536) / 2 ^ (7 * place % 8)) 127 in
    let whole : word ≡ window low high 8 (7 * place % 8) 7 = septet_window low high (7 * place % 8) l h in
    let below : window low high 8 (7 * place % 8) 7 < 2 ^ 7 = mod_below ((high * 2 ^ 8 + low) / 2 ^ (7 * place % 8))
    (2 ^ 7) (omega arith) in
    let small : word < 128 = subst (λ x. x < 128) (sym whole) below in
    sym (of_seven_bits-bit_at word small)
    ∙ of_seven_bits-same (bit_at word) (λ j. octet_bit xs (7 * place + j))
    (λ j under. unpacked_bit xs place j low high is_low is_high l h under)

-- the eight bits of the octet at a place of a packed page
abbrev pub HasBitsOf : List ℕ → ℕ → ℕ → Type 0
HasBitsOf septets place octet = (j : ℕ) → j < 8 → bit_at octet j ≡ septet_bit (filled septets) (8 * place + j)

-- the octets before this place are packed
pub record ArePacked (septets octets : List ℕ) (count : ℕ) : Type 0 where
  pub size : length octets ≡ 82
  pub fits : All (λ octet. octet < 256) octets
  pub packed : (k : ℕ) → k < count → HasBitsOf septets k (get_or octets k 0)

-- one octet more, of two septets of which the first begins s bits before it
pub ArePacked-more : (septets octets : List ℕ) (place first s low high octet next : ℕ)
    → ArePacked septets octets place → next ≡ place + 1 → place < 82 → 8 * place ≡ 7 * first + s → s < 7 → low ≡ get_or
    (filled septets) first 0
    → high ≡ get_or (filled septets) (first + 1) 0 → low < 128 → octet < 256
    → octet ≡ (high * 128 + low) / 2 ^ s % 256
    → ArePacked septets (set octets place octet) next
ArePacked-more septets octets place first s low high octet next had is_next within at in_group is_low is_high l fits is
    =
    let bits : HasBitsOf septets place octet = λ j below.
    packed_bit (filled septets) first s j low high octet is_low is_high l in_group below is
    ∙ (let same : 7 * first + s + j ≡ 8 * place + j = omega arith in ap (λ i. septet_bit (filled septets) i) same) in
    record {
      size = length-set octets place octet ∙ had.size;
      fits = All-set (λ (a : ℕ). a < 256) octets place octet fits had.fits;
      packed = rw is_next (below_more (λ k. HasBitsOf septets k (get_or (set octets place octet) k 0)) place
          (λ k below. let other : k ≢ place = omega arith in rw get_or-set_other (had.packed k below))
          (let inside : place < length octets = omega (arith, had.size) in rw get_or-set_same bits));
    }

-- 82 octets of such bits are the packing
pub IsPacked-from_octets : (septets octets : List ℕ) → length septets ≤ 93 → ArePacked septets octets 82
    → IsPacked septets octets
IsPacked-from_octets septets octets short done =
    let same : (i : ℕ) → i < 656 → octet_bit octets i ≡ septet_bit (filled septets) i =
    λ i within.
    done.packed (i / 8) (omega arith) (i % 8) (omega arith)
    ∙ ap (λ a. septet_bit (filled septets) a) (let whole : 8 * (i / 8) + i % 8 ≡ i = omega arith in whole) in
    record {
      size = done.size;
      in_range = done.fits;
      same_bits = λ i within. same i (omega arith);
      spare_bits = λ i past within. same i within ∙ septet_bit-past septets i short past;
    }
