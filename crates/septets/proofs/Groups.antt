-- Eight septets at once: the seven octets of a group as one number, and its septets brought to octets of their own.
use Rattle.std.proofs.Common.{◌≡◌, ℕ, ◌+◌, ◌-◌, ◌*◌, ◌/◌, ◌%◌, ◌^◌, ◌<◌, ◌≤◌, List, length, get_or, bit_and, bit_or}
use Rattle.std.proofs.Common.{max, min, w64, refl, sym, ap, ◌∙◌, inl, inr, arith}
use Rattle.std.specs.Int.{bit_at, from_le_bytes, to_le_bytes}
use Rattle.std.proofs.Math.Nat.{add-zero}
use Rattle.std.proofs.Math.Pow.{pow_mono}
use Rattle.std.proofs.lemmas.Bool.{cases_lt}
use Rattle.std.proofs.lemmas.Nat.{and_mask, le_bytes_8, mod_below, pow_pos}
use Rattle.std.proofs.lemmas.Nat.Bits.{bit_at-zero, bit_at_and, bit_at_or, bit_at_cat_low, bit_at_cat_high}
use Rattle.std.proofs.lemmas.Nat.Bits.{same_from_bits_below}
use borrow.Author.Count.{below_none, below_more}
use Rattle.septets.specs.Packing.{octet_bit, septet_at}
use Rattle.septets.proofs.PackingLaws.{octet_bit-at, of_seven_bits-bit_at, of_seven_bits-same}
use Rattle.septets.proofs.Windows.{bit_at-mod, bit_at-shr}

-- some bits of a number, which stay, beside others, which move up s places in a word of 64 bits
abbrev merged : ℕ → ℕ → ℕ → ℕ → ℕ
merged x low high s = bit_or (bit_and x low) (bit_and x high * 2 ^ s % 2 ^ 64)

-- a number that was moved up has no bit below
moved-low : (a s i : ℕ) → i < s → bit_at (a * 2 ^ s) i ≡ 0
moved-low a s i below =
    ap (λ n. bit_at n i) (sym (add-zero (a * 2 ^ s))) ∙ bit_at_cat_low a s 0 i below ∙ bit_at-zero i

moved-high : (a s i : ℕ) → s ≤ i → bit_at (a * 2 ^ s) i ≡ bit_at a (i - s)
moved-high a s i above =
    ap (λ n. bit_at n i) (sym (add-zero (a * 2 ^ s))) ∙ bit_at_cat_high a s 0 i (pow_pos s) above

-- the bits that move are those of the number moved up, at those of the mask moved up
moved-and : (x mask s i : ℕ) → bit_at (bit_and x mask * 2 ^ s) i ≡ min (bit_at (x * 2 ^ s) i) (bit_at (mask * 2 ^ s) i)
moved-and x mask s i =
    elim (cases_lt i s) [
      | inl below ↦ moved-low (bit_and x mask) s i below
          ∙ sym (rw (moved-low x s i below) (omega arith))
      | inr above ↦ moved-high (bit_and x mask) s i above ∙ bit_at_and x mask (i - s)
          ∙ sym (ap (λ b. min b (bit_at (mask * 2 ^ s) i)) (moved-high x s i above)
          ∙ ap (λ b. min (bit_at x (i - s)) b) (moved-high mask s i above))
    ]

bit_at-merged : (x low high s i : ℕ) → i < 64 → bit_at (merged x low high s) i
    ≡ max (min (bit_at x i) (bit_at low i)) (min (bit_at (x * 2 ^ s) i) (bit_at (high * 2 ^ s) i))
bit_at-merged x low high s i below =
    bit_at_or (bit_and x low) (bit_and x high * 2 ^ s % 2 ^ 64) i
    ∙ ap (λ b. max b (bit_at (bit_and x high * 2 ^ s % 2 ^ 64) i)) (bit_at_and x low i)
    ∙ ap (λ b. max (min (bit_at x i) (bit_at low i)) b)
    (bit_at-mod (bit_and x high * 2 ^ s) 64 i below ∙ moved-and x high s i)

-- bit j of w bits from a on
bit_at-window : (n a w j : ℕ) → j < w → bit_at (n / 2 ^ a % 2 ^ w) j ≡ bit_at n (a + j)
bit_at-window n a w j below = bit_at-mod (n / 2 ^ a) w j below ∙ bit_at-shr n a j

-- a bit of the lowest seven of a number
bit_at-seven : (n a j : ℕ) → min (bit_at n (a + j)) (bit_at 127 j) ≡ bit_at (n / 2 ^ a % 2 ^ 7) j
bit_at-seven n a j =
    ap (λ b. min b (bit_at 127 j)) (sym (bit_at-shr n a j)) ∙ sym (bit_at_and (n / 2 ^ a) 127 j)
    ∙ ap (λ x. bit_at x j) (and_mask (n / 2 ^ a) 7)

one_side : (b m c d : ℕ) → d ≡ 0 → max (min b m) (min c d) ≡ min b m
one_side b m c d none = omega (arith, none)

other_side : (b m c d : ℕ) → m ≡ 0 → max (min b m) (min c d) ≡ min c d
other_side b m c d none = omega (arith, none)

-- a number of seven bits is below any power of two from there on
seven-below : (n w : ℕ) → 7 ≤ w → n % 2 ^ 7 < 2 ^ w
seven-below n w wide = omega (arith, mod_below n (2 ^ 7) (pow_pos 7), pow_mono wide)

module _ (x low high s a w : ℕ) (wide : 7 ≤ w) (within : a + w ≤ 64) where
  -- what stands at bit j of w bits from a on, by the masks' bits there
  bit_at-part : (m n j : ℕ) → j < w → low / 2 ^ a % 2 ^ w ≡ m → high * 2 ^ s / 2 ^ a % 2 ^ w ≡ n
      → bit_at (merged x low high s / 2 ^ a % 2 ^ w) j
      ≡ max (min (bit_at x (a + j)) (bit_at m j)) (min (bit_at (x * 2 ^ s) (a + j)) (bit_at n j))
  bit_at-part m n j below is_low is_high =
      bit_at-window (merged x low high s) a w j below
      ∙ bit_at-merged x low high s (a + j) (omega arith)
      ∙ ap (λ b. max (min (bit_at x (a + j)) b) (min (bit_at (x * 2 ^ s) (a + j)) (bit_at (high * 2 ^ s) (a + j))))
      (sym (bit_at-window low a w j below) ∙ ap (λ q. bit_at q j) is_low)
      ∙ ap (λ b. max (min (bit_at x (a + j)) (bit_at m j)) (min (bit_at (x * 2 ^ s) (a + j)) b))
      (sym (bit_at-window (high * 2 ^ s) a w j below) ∙ ap (λ q. bit_at q j) is_high)

  -- seven bits that stay, and no others among the w bits from a on
  pub kept : low / 2 ^ a % 2 ^ w ≡ 127 → high * 2 ^ s / 2 ^ a % 2 ^ w ≡ 0
      → merged x low high s / 2 ^ a % 2 ^ w ≡ x / 2 ^ a % 2 ^ 7
  kept is_low is_high =
      same_from_bits_below w _ _ (mod_below (merged x low high s / 2 ^ a) (2 ^ w) (pow_pos w))
      (seven-below (x / 2 ^ a) w wide) (λ j below.
      bit_at-part 127 0 j below is_low is_high
      ∙ one_side (bit_at x (a + j)) (bit_at 127 j) (bit_at (x * 2 ^ s) (a + j)) (bit_at 0 j) (bit_at-zero j)
      ∙ bit_at-seven x a j)

  -- seven bits that move, and no others among the w bits from a on
  pub moved : s ≤ a → low / 2 ^ a % 2 ^ w ≡ 0 → high * 2 ^ s / 2 ^ a % 2 ^ w ≡ 127
      → merged x low high s / 2 ^ a % 2 ^ w ≡ x / 2 ^ (a - s) % 2 ^ 7
  moved above is_low is_high =
      same_from_bits_below w _ _ (mod_below (merged x low high s / 2 ^ a) (2 ^ w) (pow_pos w))
      (seven-below (x / 2 ^ (a - s)) w wide) (λ j below.
      bit_at-part 0 127 j below is_low is_high
      ∙ other_side (bit_at x (a + j)) (bit_at 0 j) (bit_at (x * 2 ^ s) (a + j)) (bit_at 127 j) (bit_at-zero j)
      ∙ ap (λ b. min b (bit_at 127 j)) (moved-high x s (a + j) (omega arith)
      ∙ (let same : a + j - s ≡ a - s + j = omega arith in ap (λ i. bit_at x i) same))
      ∙ bit_at-seven x (a - s) j)

-- the word with the upper half of its septets moved up
abbrev pub halves : ℕ → ℕ
halves n = merged n 0x0FFFFFFF 0x00FFFFFFF0000000 4

-- the upper half of each half moved up too
abbrev pub quarters : ℕ → ℕ
quarters n = merged (halves n) 0x00003FFF00003FFF 0x0FFFC0000FFFC000 2

-- and of each quarter, so that each septet has an octet
abbrev pub octets : ℕ → ℕ
octets n = merged (quarters n) 0x007F007F007F007F 0x3F803F803F803F80 1

-- the word's septet at a place stands in the octet there
abbrev Stands : ℕ → ℕ → Type 0
Stands n place = octets n / 2 ^ (8 * place) % 2 ^ 8 ≡ n / 2 ^ (7 * place) % 2 ^ 7

module _ (n : ℕ) where
  octet_kept : (a : ℕ) → a + 8 ≤ 64 → 0x007F007F007F007F / 2 ^ a % 2 ^ 8 ≡ 127
      → 0x3F803F803F803F80 * 2 ^ 1 / 2 ^ a % 2 ^ 8 ≡ 0 → octets n / 2 ^ a % 2 ^ 8 ≡ quarters n / 2 ^ a % 2 ^ 7
  octet_kept a within = kept (quarters n) 0x007F007F007F007F 0x3F803F803F803F80 1 a 8 (omega arith) within

  octet_moved : (a : ℕ) → a + 8 ≤ 64 → 1 ≤ a → 0x007F007F007F007F / 2 ^ a % 2 ^ 8 ≡ 0
      → 0x3F803F803F803F80 * 2 ^ 1 / 2 ^ a % 2 ^ 8 ≡ 127 → octets n / 2 ^ a % 2 ^ 8 ≡ quarters n / 2 ^ (a - 1) % 2 ^ 7
  octet_moved a within = moved (quarters n) 0x007F007F007F007F 0x3F803F803F803F80 1 a 8 (omega arith) within

  quarter_kept : (a : ℕ) → a + 7 ≤ 64 → 0x00003FFF00003FFF / 2 ^ a % 2 ^ 7 ≡ 127
      → 0x0FFFC0000FFFC000 * 2 ^ 2 / 2 ^ a % 2 ^ 7 ≡ 0 → quarters n / 2 ^ a % 2 ^ 7 ≡ halves n / 2 ^ a % 2 ^ 7
  quarter_kept a within = kept (halves n) 0x00003FFF00003FFF 0x0FFFC0000FFFC000 2 a 7 (omega arith) within

  quarter_moved : (a : ℕ) → a + 7 ≤ 64 → 2 ≤ a → 0x00003FFF00003FFF / 2 ^ a % 2 ^ 7 ≡ 0
      → 0x0FFFC0000FFFC000 * 2 ^ 2 / 2 ^ a % 2 ^ 7 ≡ 127 → quarters n / 2 ^ a % 2 ^ 7 ≡ halves n / 2 ^ (a - 2) % 2 ^ 7
  quarter_moved a within = moved (halves n) 0x00003FFF00003FFF 0x0FFFC0000FFFC000 2 a 7 (omega arith) within

  half_kept : (a : ℕ) → a + 7 ≤ 64 → 0x0FFFFFFF / 2 ^ a % 2 ^ 7 ≡ 127
      → 0x00FFFFFFF0000000 * 2 ^ 4 / 2 ^ a % 2 ^ 7 ≡ 0 → halves n / 2 ^ a % 2 ^ 7 ≡ n / 2 ^ a % 2 ^ 7
  half_kept a within = kept n 0x0FFFFFFF 0x00FFFFFFF0000000 4 a 7 (omega arith) within

  half_moved : (a : ℕ) → a + 7 ≤ 64 → 4 ≤ a → 0x0FFFFFFF / 2 ^ a % 2 ^ 7 ≡ 0
      → 0x00FFFFFFF0000000 * 2 ^ 4 / 2 ^ a % 2 ^ 7 ≡ 127 → halves n / 2 ^ a % 2 ^ 7 ≡ n / 2 ^ (a - 4) % 2 ^ 7
  half_moved a within = moved n 0x0FFFFFFF 0x00FFFFFFF0000000 4 a 7 (omega arith) within

  -- the masks have their ones where the septets stand at each step
  pub stands : (place : ℕ) → place < 8 → Stands n place
  stands =
      let zeroth : Stands n 0 = octet_kept 0 (omega arith) refl refl ∙ quarter_kept 0 (omega arith) refl refl
      ∙ half_kept 0 (omega arith) refl refl in
      let first : Stands n 1 = octet_moved 8 (omega arith) (omega arith) refl refl
      ∙ quarter_kept 7 (omega arith) refl refl ∙ half_kept 7 (omega arith) refl refl in
      let second : Stands n 2 = octet_kept 16 (omega arith) refl refl
      ∙ quarter_moved 16 (omega arith) (omega arith) refl refl ∙ half_kept 14 (omega arith) refl refl in
      let third : Stands n 3 = octet_moved 24 (omega arith) (omega arith) refl refl
      ∙ quarter_moved 23 (omega arith) (omega arith) refl refl ∙ half_kept 21 (omega arith) refl refl in
      let fourth : Stands n 4 = octet_kept 32 (omega arith) refl refl ∙ quarter_kept 32 (omega arith) refl refl
      ∙ half_moved 32 (omega arith) (omega arith) refl refl in
      let fifth : Stands n 5 = octet_moved 40 (omega arith) (omega arith) refl refl
      ∙ quarter_kept 39 (omega arith) refl refl ∙ half_moved 39 (omega arith) (omega arith) refl refl in
      let sixth : Stands n 6 = octet_kept 48 (omega arith) refl refl
      ∙ quarter_moved 48 (omega arith) (omega arith) refl refl ∙ half_moved 46 (omega arith) (omega arith) refl refl in
      let seventh : Stands n 7 = octet_moved 56 (omega arith) (omega arith) refl refl
      ∙ quarter_moved 55 (omega arith) (omega arith) refl refl ∙ half_moved 53 (omega arith) (omega arith) refl refl in
      below_more (Stands n) 7 (below_more (Stands n) 6 (below_more (Stands n) 5 (below_more (Stands n) 4
      (below_more (Stands n) 3 (below_more (Stands n) 2 (below_more (Stands n) 1 (below_more (Stands n) 0
      (below_none (Stands n)) zeroth) first) second) third) fourth) fifth) sixth) seventh

-- the octets of a number, lowest first
abbrev IsOctet : ℕ → ℕ → Type 0
IsOctet n place = get_or (to_le_bytes w64 n) place 0 ≡ n / 2 ^ (8 * place) % 2 ^ 8

-- each of the eight is as many bits of it
pub octet_of : (n place : ℕ) → place < 8 → IsOctet n place
octet_of n =
    below_more (IsOctet n) 7 (below_more (IsOctet n) 6 (below_more (IsOctet n) 5 (below_more (IsOctet n) 4
    (below_more (IsOctet n) 3 (below_more (IsOctet n) 2 (below_more (IsOctet n) 1 (below_more (IsOctet n) 0
    (below_none (IsOctet n)) (omega arith)) refl) refl) refl) refl) refl) refl) refl

module _ (xs own : List ℕ) (group : ℕ) (size : length own ≡ 8) (fits : (k : ℕ) → get_or own k 0 < 256)
    (same : (k : ℕ) → k < 8 → get_or own k 0 ≡ get_or xs (7 * group + k) 0) where
  -- bit i of the number that a group's octets and the next are
  bit_at-word : (n i : ℕ) → n ≡ from_le_bytes w64 own → i < 64 → bit_at (get_or own (i / 8) 0) (i % 8) ≡ bit_at n i
  bit_at-word n i is below =
      sym (ap (λ octets. bit_at (get_or octets (i / 8) 0) (i % 8)) (le_bytes_8 own n size fits is))
      ∙ ap (λ x. bit_at x (i % 8)) (octet_of n (i / 8) (omega arith))
      ∙ bit_at-window n (8 * (i / 8)) 8 (i % 8) (omega arith)
      ∙ (let whole : 8 * (i / 8) + i % 8 ≡ i = omega arith in ap (λ k. bit_at n k) whole)

  -- bit j of its septet at a place
  bit_at-own : (n place j : ℕ) → n ≡ from_le_bytes w64 own → place < 8 → j < 7
      → bit_at (n / 2 ^ (7 * place) % 2 ^ 7) j ≡ octet_bit xs (7 * (8 * group + place) + j)
  bit_at-own n place j is within below =
      bit_at-window n (7 * place) 7 j below
      ∙ sym (bit_at-word n (7 * place + j) is (omega arith))
      ∙ ap (λ x. bit_at x ((7 * place + j) % 8)) (same ((7 * place + j) / 8) (omega arith))
      ∙ sym (octet_bit-at xs (7 * (8 * group + place) + j) (7 * group + (7 * place + j) / 8) ((7 * place + j) % 8)
      (omega arith) (omega arith))

  -- its septet at a place is the page's
  pub septet_at-own : (n place : ℕ) → n ≡ from_le_bytes w64 own → place < 8
      → n / 2 ^ (7 * place) % 2 ^ 7 ≡ septet_at xs (8 * group + place)
  unfolding septet_at
  septet_at-own n place is within =
      sym (of_seven_bits-bit_at (n / 2 ^ (7 * place) % 2 ^ 7) (mod_below (n / 2 ^ (7 * place)) (2 ^ 7) (pow_pos 7)))
      ∙ of_seven_bits-same (bit_at (n / 2 ^ (7 * place) % 2 ^ 7)) (λ j. octet_bit xs (7 * (8 * group + place) + j))
      (λ j under. bit_at-own n place j is within under)
