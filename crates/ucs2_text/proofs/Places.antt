-- The octets of a page and the units of its octets, place by place.
use Rattle.std.proofs.Common.{◌≡◌, ◌==◌, if◌then◌else◌, ℕ, ◌+◌, ◌-◌, ◌*◌, ◌/◌, ◌%◌, ◌<◌, ◌≤◌, zero, suc, List, [], ◌∷◌}
use Rattle.std.proofs.Common.{length, get_or, replicate, refl, sym, ap, ◌∙◌, arith, length-append}
use Rattle.std.proofs.lemmas.List.{length-replicate}
use Rattle.std.proofs.lemmas.List.FromFn.{fill_by_all}
use Rattle.std.specs.List.{flat_map}
use Rattle.ucs2_text.specs.Ucs2.{octets_of_unit, page_units, octets_of_units, units_of_octets}

-- two lists of one length that agree at each place are one
same_from_places : (xs ys : List ℕ) (n : ℕ) → length xs ≡ n → length ys ≡ n
    → ((k : ℕ) → k < n → get_or xs k 0 ≡ get_or ys k 0) → xs ≡ ys
same_from_places xs ys n xs_length ys_length agree =
    fill_by_all (λ k. get_or ys k 0) xs n 0 xs_length agree ∙ sym
    (fill_by_all (λ k. get_or ys k 0) ys n 0 ys_length (λ k _. refl))

length-octets : (units : List ℕ) → length (flat_map octets_of_unit units) ≡ 2 * length units
length-octets [] = refl
length-octets (unit ∷ units) = omega (arith, length-octets units)

-- the octet at a place: of the unit at half that place, the high one at an even place
abbrev pub octet_at_place : List ℕ → ℕ → ℕ
octet_at_place units place =
    let unit = get_or units (place / 2) 13 in
    if place % 2 == 0 then unit / 256 else unit % 256

-- each unit has two places
octet-at_unit : (units : List ℕ) (k : ℕ) → k < 2 * length units
    → get_or (flat_map octets_of_unit units) k 0 ≡ octet_at_place units k
octet-at_unit [] k below = absurd (omega arith)
octet-at_unit (unit ∷ units) zero below = refl
octet-at_unit (unit ∷ units) (suc zero) below = refl
octet-at_unit (unit ∷ units) (suc (suc k)) below =
    let half : suc (suc k) / 2 ≡ suc (k / 2) = omega arith in
    let parity : suc (suc k) % 2 ≡ k % 2 = omega arith in
    rw (half, parity) (octet-at_unit units k (omega arith))

-- 41 units at most fill 82 octets
pub length-octets_of_units : (units : List ℕ) → length units ≤ 41 → length (octets_of_units units) ≡ 82
length-octets_of_units units short =
    let fill = 41 - length units in
    omega (
      arith,
      length-octets (page_units units),
      length-append units (replicate fill 13),
      length-replicate {A = ℕ} fill 13,
    )

-- the octets that the loop wrote, each at its place, are those of the page's units
pub octets-by_place : (units octets : List ℕ) → length units ≡ 41 → length octets ≡ 82
    → ((k : ℕ) → k < 82 → get_or octets k 0 ≡ octet_at_place units k) → octets ≡ flat_map octets_of_unit units
octets-by_place units octets all whole each =
    same_from_places octets (flat_map octets_of_unit units) 82 whole (omega (arith, length-octets units, all))
    (λ k below. each k below ∙ sym (octet-at_unit units k (omega (arith, all))))

-- two octets make one unit
pub length-units_of_octets : (n : ℕ) (octets : List ℕ) → length octets ≡ 2 * n → length (units_of_octets octets) ≡ n
length-units_of_octets zero [] whole = refl
length-units_of_octets zero (high ∷ octets) whole = absurd (omega arith)
length-units_of_octets (suc n) [] whole = absurd (omega arith)
length-units_of_octets (suc n) (high ∷ []) whole = absurd (omega arith)
length-units_of_octets (suc n) (high ∷ low ∷ octets) whole =
    ap suc (length-units_of_octets n octets (omega arith))

-- the unit at a place: the octets at twice that place
abbrev pub unit_at_place : List ℕ → ℕ → ℕ
unit_at_place octets place = 256 * get_or octets (2 * place) 0 + get_or octets (2 * place + 1) 0

-- a unit has two octets
pub unit-at : (octets : List ℕ) (k : ℕ) → 2 * k + 1 < length octets
    → get_or (units_of_octets octets) k 0 ≡ unit_at_place octets k
unit-at [] k below = absurd (omega arith)
unit-at (high ∷ []) k below = absurd (omega arith)
unit-at (high ∷ low ∷ octets) zero below = refl
unit-at (high ∷ low ∷ octets) (suc k) below =
    let even : 2 * suc k ≡ suc (suc (2 * k)) = omega arith in
    let odd : 2 * suc k + 1 ≡ suc (suc (2 * k + 1)) = omega arith in
    rw (odd, even) (unit-at octets k (omega arith))

-- the units that the loop read, each at its place, are those of the octets
pub units-by_place : (octets units : List ℕ) → length octets ≡ 82 → length units ≡ 41
    → ((k : ℕ) → k < 41 → get_or units k 0 ≡ get_or (units_of_octets octets) k 0) → units ≡ units_of_octets octets
units-by_place octets units whole all each =
    same_from_places units (units_of_octets octets) 41 all (length-units_of_octets 41 octets whole) each
