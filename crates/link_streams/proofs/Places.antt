-- Places of octets, counted from the first place of a direction.
use Rattle.std.proofs.Common.{◌≡◌, ◌⊎◌, ℕ, ◌+◌, ◌-◌, ◌<◌, ◌≤◌, ◌%◌, ◌∙◌, true, false, cond, List, [], ◌∷◌, ap, refl}
use Rattle.std.proofs.Common.{arith, inl, inr, length, Some, None}
use Rattle.std.specs.Prelude.{◌&&◌, nat_lt, slice_index}
use Rattle.std.specs.List.{AllByRecursion}
use Rattle.std.specs.Option.{option_or}
use Rattle.std.proofs.lemmas.Bool.{cases_lt, le-ltb, lt-ltb}
use Rattle.link_streams.specs.Laws.{IsNear}
use Rattle.link_streams.specs.Stream.{distance, first_octet_at, is_past, octet_from, sequence_after}
use Rattle.link_streams.specs.declared.waiting.Waiting.{Waiting}

-- the place so many octets after the first
abbrev pub at : (first offset : ℕ) → ℕ
at first offset = (first + offset) % 4294967296

-- how far a part is from the first place, up to its end
abbrev pub end_of : (first : ℕ) → Waiting → ℕ
end_of first part = distance first part.first + length part.octets

-- the next place
pub at_next : (first offset : ℕ) → sequence_after (at first offset) 1 ≡ at first (offset + 1)
at_next first offset = omega arith

-- the place so many octets later
pub at_later : (first offset count : ℕ) → sequence_after (at first offset) count ≡ at first (offset + count)
at_later first offset count = omega arith

-- how far it is to a place from the begin of a part that ends before it
beyond : (first place offset size : ℕ) → first < 4294967296 → place < 4294967296 → 0 < size →
    distance first place + size ≤ offset → offset < 67108864 → size ≤ distance place (at first offset)
beyond first place offset size f p some before few = omega (arith, f, p, some, before, few)

-- a part has no octet after its end
pub none_beyond : (first offset : ℕ) (part : Waiting) → first < 4294967296 → IsNear first part →
    end_of first part ≤ offset → offset < 67108864 → octet_from part (at first offset) ≡ None
none_beyond first offset part f near before few =
    ap (λ b. cond b (Some (slice_index part.octets (distance part.first (at first offset)))) None)
    (le-ltb (distance part.first (at first offset)) (length part.octets)
    (beyond first part.first offset (length part.octets) f near.place near.some before few))

-- whether a part has an octet after those that the stream has
ahead : (first place offset size : ℕ) → first < 4294967296 → place < 4294967296 →
    distance first place + size < 33554432 → offset < distance first place + size →
    distance (at first offset) (sequence_after place size) ≡ distance first place + size - offset
ahead first place offset size f p near after = omega (arith, f, p, near, after)

behind : (first place offset size : ℕ) → first < 4294967296 → place < 4294967296 →
    distance first place + size ≤ offset → offset < 67108864 →
    (distance (at first offset) (sequence_after place size) ≡ 0)
    ⊎ (2147483648 ≤ distance (at first offset) (sequence_after place size))
behind first place offset size f p before few = elim (cases_lt (distance first place + size) offset) [
  | inl less ↦ inr (omega (arith, f, p, less, few))
  | inr same ↦ inl (omega (arith, f, p, before, same))
]

-- a part that ends after those octets has one
pub past : (first offset : ℕ) (part : Waiting) → first < 4294967296 → IsNear first part → offset < end_of first part →
    is_past (at first offset) part ≡ true
past first offset part f near after =
    let size : ℕ = length part.octets in
    let far : ℕ = distance (at first offset) (sequence_after part.first size) in
    let is : far ≡ distance first part.first + size - offset =
    ahead first part.first offset size f near.place near.near after in
    ap (λ b. b && nat_lt far 2147483648) (lt-ltb 0 far (omega (arith, is, after)))
    ∙ lt-ltb far 2147483648 (omega (arith, is, near.near))

-- and one that ends before or with them has none
pub not_past : (first offset : ℕ) (part : Waiting) → first < 4294967296 → IsNear first part →
    end_of first part ≤ offset → offset < 67108864 → is_past (at first offset) part ≡ false
not_past first offset part f near before few =
    let size : ℕ = length part.octets in
    let far : ℕ = distance (at first offset) (sequence_after part.first size) in
    elim (behind first part.first offset size f near.place before few) [
      | inl none ↦ ap (λ b. b && nat_lt far 2147483648) (le-ltb 0 far (omega (arith, none)))
      | inr back ↦ elim (cases_lt 0 far) [
        | inl some ↦ ap (λ b. b && nat_lt far 2147483648) (lt-ltb 0 far some) ∙ le-ltb far 2147483648 back
        | inr none ↦ ap (λ b. b && nat_lt far 2147483648) (le-ltb 0 far none)
      ]
    ]

-- no part has an octet after the ends of all
pub none_after : (first offset : ℕ) (parts : List Waiting) → first < 4294967296 →
    AllByRecursion (IsNear first) parts → 33554432 ≤ offset → offset < 67108864 →
    first_octet_at parts (at first offset) ≡ None
none_after first offset [] f near late few = refl
none_after first offset (part ∷ rest) f near late few =
    ap (λ it. option_or it (first_octet_at rest (at first offset)))
    (none_beyond first offset part f near.0 (omega (arith, near.0.near, late)) few)
    ∙ none_after first offset rest f near.1 late few
