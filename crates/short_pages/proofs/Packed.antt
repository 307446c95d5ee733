-- The content that holds some septets is the packing of them, and the only one.
use Rattle.std.proofs.Common.{◌≡◌, ℕ, ◌+◌, ◌*◌, ◌/◌, ◌%◌, ◌<◌, ◌≤◌, List, length, get_or, ap, ◌∙◌, arith}
use Rattle.std.proofs.Common.{zero-add, refl}
use Rattle.std.specs.Int.{bit_at}
use Rattle.std.proofs.lemmas.List.Elements.{All-from_get_or}
use Rattle.std.proofs.lemmas.List.FromFn.{length-map-range_with_len, get_or-map-range_with_len}
use Rattle.std.proofs.lemmas.Nat.Bits.{bit_at-lt}
use borrow.Author.Count.{below_none, below_more}
use Rattle.septets.specs.Packing.{filled, octet_bit, septet_bit, IsPacked}
use Rattle.septets.proofs.PackingLaws.{octet_bit-at, septet_bit-past, packing_is_unique}
use Rattle.short_pages.specs.WholePage.{of_eight_bits, octet_at, packed}

module _ (f : ℕ → ℕ) (bits : (j : ℕ) → f j < 2) where
  -- a number of eight bits is below 256
  of_eight_bits-below : of_eight_bits f < 256
  of_eight_bits-below = omega (arith, bits 0, bits 1, bits 2, bits 3, bits 4, bits 5, bits 6, bits 7)

  -- bit j of a number of eight bits
  bit_at-of_eight_bits : (j : ℕ) → j < 8 → bit_at (of_eight_bits f) j ≡ f j
  bit_at-of_eight_bits =
      let Same : ℕ → Type 0 = λ j. bit_at (of_eight_bits f) j ≡ f j in
      let zeroth : Same 0 = omega (arith, bits 0, bits 1, bits 2, bits 3, bits 4, bits 5, bits 6, bits 7) in
      let first : Same 1 = omega (arith, bits 0, bits 1, bits 2, bits 3, bits 4, bits 5, bits 6, bits 7) in
      let second : Same 2 = omega (arith, bits 0, bits 1, bits 2, bits 3, bits 4, bits 5, bits 6, bits 7) in
      let third : Same 3 = omega (arith, bits 0, bits 1, bits 2, bits 3, bits 4, bits 5, bits 6, bits 7) in
      let fourth : Same 4 = omega (arith, bits 0, bits 1, bits 2, bits 3, bits 4, bits 5, bits 6, bits 7) in
      let fifth : Same 5 = omega (arith, bits 0, bits 1, bits 2, bits 3, bits 4, bits 5, bits 6, bits 7) in
      let sixth : Same 6 = omega (arith, bits 0, bits 1, bits 2, bits 3, bits 4, bits 5, bits 6, bits 7) in
      let seventh : Same 7 = omega (arith, bits 0, bits 1, bits 2, bits 3, bits 4, bits 5, bits 6, bits 7) in
      below_more Same 7 (below_more Same 6 (below_more Same 5 (below_more Same 4
      (below_more Same 3 (below_more Same 2 (below_more Same 1 (below_more Same 0 (below_none Same) zeroth) first)
      second) third) fourth) fifth) sixth) seventh

module _ (septets : List ℕ) where
  -- a bit of the septets, and of CR after them
  abbrev bit : ℕ → ℕ → ℕ
  bit place j = septet_bit (filled septets) (8 * place + j)

  bit-small : (place j : ℕ) → bit place j < 2
  bit-small place j = bit_at-lt (get_or (filled septets) ((8 * place + j) / 7) 0) ((8 * place + j) % 7)

  pub length-packed : length (packed septets) ≡ 82
  unfolding packed
  length-packed = length-map-range_with_len (octet_at septets) 0 82

  -- the octet at each place
  get_or-packed : (place : ℕ) → place < 82 → get_or (packed septets) place 0 ≡ octet_at septets place
  unfolding packed
  get_or-packed place within =
      get_or-map-range_with_len (octet_at septets) 0 82 place place 0 within (zero-add place)

  octet_at-small : (place : ℕ) → octet_at septets place < 256
  unfolding octet_at
  octet_at-small place = of_eight_bits-below (bit place) (bit-small place)

  bit_at-octet_at : (place j : ℕ) → j < 8 → bit_at (octet_at septets place) j ≡ bit place j
  unfolding octet_at
  bit_at-octet_at place j below = bit_at-of_eight_bits (bit place) (bit-small place) j below

  -- a bit of the content is that of the septets
  octet_bit-packed : (i : ℕ) → i < 656 → octet_bit (packed septets) i ≡ septet_bit (filled septets) i
  octet_bit-packed i within =
      octet_bit-at (packed septets) i (i / 8) (i % 8) refl refl
      ∙ ap (λ n. bit_at n (i % 8)) (get_or-packed (i / 8) (omega arith))
      ∙ bit_at-octet_at (i / 8) (i % 8) (omega arith)
      ∙ ap (λ a. septet_bit (filled septets) a) (let whole : 8 * (i / 8) + i % 8 ≡ i = omega arith in whole)

  -- the content that holds septets is a packing of them
  pub packed_is_packing : length septets ≤ 93 → IsPacked septets (packed septets)
  packed_is_packing short = record {
    size = length-packed;
    in_range = All-from_get_or (λ octet. octet < 256) (packed septets) 0
        (λ place within. let inside : place < 82 = omega (arith, length-packed) in
        rw (get_or-packed place inside) (octet_at-small place));
    same_bits = λ i within. octet_bit-packed i (omega arith);
    spare_bits = λ i past within. octet_bit-packed i within ∙ septet_bit-past septets i short past;
  }

  -- and the only one
  pub packed-is : (octets : List ℕ) → length septets ≤ 93 → IsPacked septets octets → octets ≡ packed septets
  packed-is octets short is = packing_is_unique septets octets (packed septets) is (packed_is_packing short)
