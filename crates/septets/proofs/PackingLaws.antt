-- The laws of packing, over definitions alone.
use Rattle.std.proofs.Common.{◌≡◌, ℕ, ◌+◌, ◌-◌, ◌*◌, ◌/◌, ◌%◌, ◌<◌, ◌≤◌, List, length, get_or, replicate, All, sym, ap}
use Rattle.std.proofs.Common.{◌∙◌, inl, inr, arith, zero-add}
use Rattle.std.specs.Int.{bit_at}
use Rattle.std.proofs.lemmas.Bool.{cases_lt}
use Rattle.std.proofs.lemmas.Grind.{same_number_lists}
use Rattle.std.proofs.lemmas.List.{get_or_past, length-append, length-replicate}
use Rattle.std.proofs.lemmas.List.Elements.{All-append, All-replicate, All-from_get_or}
use Rattle.std.proofs.lemmas.List.FromFn.{fill_by_all, length-map-range_with_len, get_or-map-range_with_len}
use Rattle.std.proofs.lemmas.Nat.Bits.{same_from_bits_below, bit_at-lt, bit_at-zero}
use borrow.Author.Count.{below_none, below_more}
use Rattle.septets.specs.Packing.{filled, octet_bit, septet_bit, of_seven_bits, septet_at, unpacked}
use Rattle.septets.specs.Laws.{PackingIsUnique, SpareBitsAreIgnored, UnpackingGivesBack, UnpackingIsBitwise}

-- a bit of the septets, by the place of its septet and its own place there
pub septet_bit-at : (septets : List ℕ) (i place j : ℕ) → i / 7 ≡ place → i % 7 ≡ j
    → septet_bit septets i ≡ bit_at (get_or septets place 0) j
septet_bit-at septets i place j is_place is_j =
    ap (λ a. bit_at (get_or septets a 0) (i % 7)) is_place ∙ ap (λ b. bit_at (get_or septets place 0) b) is_j

-- a bit of the octets, by the place of its octet and its own place there
pub octet_bit-at : (octets : List ℕ) (i place j : ℕ) → i / 8 ≡ place → i % 8 ≡ j
    → octet_bit octets i ≡ bit_at (get_or octets place 0) j
octet_bit-at octets i place j is_place is_j =
    ap (λ a. bit_at (get_or octets a 0) (i % 8)) is_place ∙ ap (λ b. bit_at (get_or octets place 0) b) is_j

-- a number below 128 is that of its seven bits
pub of_seven_bits-bit_at : (n : ℕ) → n < 128 → of_seven_bits (bit_at n) ≡ n
of_seven_bits-bit_at n below = omega arith

-- the same seven bits are the same number
pub of_seven_bits-same : (f g : ℕ → ℕ) → ((j : ℕ) → j < 7 → f j ≡ g j) → of_seven_bits f ≡ of_seven_bits g
of_seven_bits-same f g same =
    omega (
      arith,
      same 0 (omega arith),
      same 1 (omega arith),
      same 2 (omega arith),
      same 3 (omega arith),
      same 4
          (omega arith),
      same 5 (omega arith),
      same 6 (omega arith),
    )

module _ (f : ℕ → ℕ) (bits : (j : ℕ) → f j < 2) where
  -- a number of seven bits is below 128
  pub of_seven_bits-below : of_seven_bits f < 128
  of_seven_bits-below = omega (arith, bits 0, bits 1, bits 2, bits 3, bits 4, bits 5, bits 6)

  -- bit j of a number of seven bits
  pub bit_at-of_seven_bits : (j : ℕ) → j < 7 → bit_at (of_seven_bits f) j ≡ f j
  bit_at-of_seven_bits =
      let Same : ℕ → Type 0 = λ j. bit_at (of_seven_bits f) j ≡ f j in
      let zeroth : Same 0 = omega (arith, bits 0, bits 1, bits 2, bits 3, bits 4, bits 5, bits 6) in
      let first : Same 1 = omega (arith, bits 0, bits 1, bits 2, bits 3, bits 4, bits 5, bits 6) in
      let second : Same 2 = omega (arith, bits 0, bits 1, bits 2, bits 3, bits 4, bits 5, bits 6) in
      let third : Same 3 = omega (arith, bits 0, bits 1, bits 2, bits 3, bits 4, bits 5, bits 6) in
      let fourth : Same 4 = omega (arith, bits 0, bits 1, bits 2, bits 3, bits 4, bits 5, bits 6) in
      let fifth : Same 5 = omega (arith, bits 0, bits 1, bits 2, bits 3, bits 4, bits 5, bits 6) in
      let sixth : Same 6 = omega (arith, bits 0, bits 1, bits 2, bits 3, bits 4, bits 5, bits 6) in
      below_more Same 6 (below_more Same 5 (below_more Same 4
      (below_more Same 3 (below_more Same 2 (below_more Same 1 (below_more Same 0 (below_none Same) zeroth) first)
      second) third) fourth) fifth) sixth

-- a filled page has 93 septets
pub length-filled : (septets : List ℕ) → length septets ≤ 93 → length (filled septets) ≡ 93
length-filled septets short =
    length-append septets (replicate (93 - length septets) 13)
    ∙ ap (λ n. length septets + n) (length-replicate (93 - length septets) 13)
    ∙ omega arith

-- each septet of a filled page is below 128
pub All-filled : (septets : List ℕ) → All (λ septet. septet < 128) septets
    → All (λ septet. septet < 128) (filled septets)
All-filled septets small =
    All-append (λ septet. septet < 128) septets (replicate (93 - length septets) 13) small
    (All-replicate (λ septet. septet < 128) (93 - length septets) 13 (omega arith))

-- at any place, since past the end there is 0
pub filled-below : (septets : List ℕ) (place : ℕ) → All (λ septet. septet < 128) septets
    → get_or (filled septets) place 0 < 128
filled-below septets place small =
    elim (cases_lt place (length (filled septets))) [
      | inl within ↦ All-filled septets small place 0 within
      | inr past ↦ rw (get_or_past (filled septets) place 0 past) (omega arith)
    ]

-- past the filled page every bit is 0
pub septet_bit-past : (septets : List ℕ) (i : ℕ) → length septets ≤ 93 → 651 ≤ i → septet_bit (filled septets) i ≡ 0
septet_bit-past septets i short past =
    ap (λ n. bit_at n (i % 7)) (get_or_past (filled septets) (i / 7) 0 (omega (arith, length-filled septets short)))
    ∙ bit_at-zero (i % 7)

-- octets carry 93 septets
pub length-unpacked : (octets : List ℕ) → length (unpacked octets) ≡ 93
unfolding unpacked
length-unpacked octets = length-map-range_with_len (septet_at octets) 0 93

-- the septet at each place
pub get_or-unpacked : (octets : List ℕ) (place : ℕ) → place < 93
    → get_or (unpacked octets) place 0 ≡ septet_at octets place
unfolding unpacked
get_or-unpacked octets place within =
    get_or-map-range_with_len (septet_at octets) 0 93 place place 0 within (zero-add place)

-- a list of the right septets is the unpacking
pub unpacked-from_septets : (octets septets : List ℕ) → length septets ≡ 93
    → ((place : ℕ) → place < 93 → get_or septets place 0 ≡ septet_at octets place) → septets ≡ unpacked octets
unfolding unpacked
unpacked-from_septets octets septets size same = fill_by_all (septet_at octets) septets 93 0 size same

-- a septet is below 128
pub septet_at-below : (octets : List ℕ) (place : ℕ) → septet_at octets place < 128
unfolding septet_at
septet_at-below octets place =
    of_seven_bits-below (λ j. octet_bit octets (7 * place + j))
    (λ j. bit_at-lt (get_or octets ((7 * place + j) / 8) 0) ((7 * place + j) % 8))

-- bit j of the septet at a place
pub bit_at-septet_at : (octets : List ℕ) (place j : ℕ) → j < 7
    → bit_at (septet_at octets place) j ≡ octet_bit octets (7 * place + j)
unfolding septet_at
bit_at-septet_at octets place j below =
    bit_at-of_seven_bits (λ j. octet_bit octets (7 * place + j))
    (λ j. bit_at-lt (get_or octets ((7 * place + j) / 8) 0) ((7 * place + j) % 8)) j below

-- each septet that octets carry is below 128
pub All-unpacked : (octets : List ℕ) → All (λ septet. septet < 128) (unpacked octets)
All-unpacked octets =
    All-from_get_or (λ septet. septet < 128) (unpacked octets) 0
    (λ place within. let inside : place < 93 = omega (arith, length-unpacked octets) in
    rw (get_or-unpacked octets place inside) (septet_at-below octets place))

-- the septets of any octets carry the same bits
pub unpacking_is_bitwise : UnpackingIsBitwise
unpacking_is_bitwise octets = record {
  size = length-unpacked octets;
  in_range = All-unpacked octets;
  same_bits = λ i within.
      let inside : i / 7 < 93 = omega arith in
      ap (λ a. octet_bit octets a) (let whole : i ≡ 7 * (i / 7) + i % 7 = omega arith in whole)
      ∙ sym (bit_at-septet_at octets (i / 7) (i % 7) (omega arith))
      ∙ ap (λ n. bit_at n (i % 7)) (sym (get_or-unpacked octets (i / 7) inside));
}

-- two lists of 93 septets that are the same place by place
same_septets : (octets : List ℕ) (others : List ℕ) → length others ≡ 93
    → ((place : ℕ) → place < 93 → septet_at octets place ≡ get_or others place 0) → unpacked octets ≡ others
same_septets octets others size same =
    same_number_lists (unpacked octets) others (length-unpacked octets ∙ sym size)
    (λ place within. let inside : place < 93 = omega (arith, length-unpacked octets) in
    get_or-unpacked octets place inside ∙ same place inside)

-- only the bits below 651 count
pub spare_bits_are_ignored : SpareBitsAreIgnored
unfolding septet_at
spare_bits_are_ignored octets others same =
    same_septets octets (unpacked others) (length-unpacked others)
    (λ place inside.
    of_seven_bits-same (λ j. octet_bit octets (7 * place + j)) (λ j. octet_bit others (7 * place + j))
    (λ j below. same (7 * place + j) (omega arith))
    ∙ sym (get_or-unpacked others place inside))

-- a septet list has one packing
pub packing_is_unique : PackingIsUnique
packing_is_unique septets octets others left right =
    same_number_lists octets others (left.size ∙ sym right.size)
    (λ place within.
    same_from_bits_below 8 (get_or octets place 0) (get_or others place 0)
    (left.in_range place 0 within) (right.in_range place 0 (omega (arith, left.size, right.size)))
    (λ j below.
    let inside : place < 82 = omega (arith, left.size) in
    sym (octet_bit-at octets (8 * place + j) place j (omega arith) (omega arith))
    ∙ elim (cases_lt (8 * place + j) 651) [
      | inl used ↦ left.same_bits (8 * place + j) used ∙ sym (right.same_bits (8 * place + j) used)
      | inr spare ↦ left.spare_bits (8 * place + j) spare (omega arith)
          ∙ sym (right.spare_bits (8 * place + j) spare (omega arith))
    ]
    ∙ octet_bit-at others (8 * place + j) place j (omega arith) (omega arith)))

-- unpacking gives back the filled septets
pub unpacking_gives_back : UnpackingGivesBack
unfolding septet_at
unpacking_gives_back septets octets small short packed =
    same_septets octets (filled septets) (length-filled septets short)
    (λ place inside.
    of_seven_bits-same (λ j. octet_bit octets (7 * place + j)) (bit_at (get_or (filled septets) place 0))
    (λ j below.
    packed.same_bits (7 * place + j) (omega arith)
    ∙ septet_bit-at (filled septets) (7 * place + j) place j (omega arith) (omega arith))
    ∙ of_seven_bits-bit_at (get_or (filled septets) place 0)
    (All-filled septets small place 0 (omega (arith, length-filled septets short))))
