-- The definitions on worked values.
use Rattle.std.proofs.Common.{◌≡◌, Some, None, [], ◌∷◌, take, drop, refl}
use Rattle.ucs2_text.specs.Ucs2.{unit_of_character, character_of_unit, octets_of_unit, octets_of_units, units_of_octets}

-- U+0412 is the octets 04 12, and U+1F600 has no unit
units : (unit_of_character 0x412 ≡ Some 0x412) × (unit_of_character 0xFFFF ≡ Some 0xFFFF)
    × (unit_of_character 0x1F600 ≡ None)
    × (octets_of_unit 0x412 ≡ 0x04 ∷ 0x12 ∷ [])
units = (refl, refl, refl, refl)

-- the ends of the surrogates and what stands beside them
surrogates : (character_of_unit 0xD7FF ≡ 0xD7FF) × (character_of_unit 0xD800 ≡ 0xFFFD)
    × (character_of_unit 0xDFFF ≡ 0xFFFD) × (character_of_unit 0xE000 ≡ 0xE000)
surrogates = (refl, refl, refl, refl)

-- a page of one unit: its two octets, and 40 times 000D
page : (take 4 (octets_of_units (0x20AC ∷ [])) ≡ 0x20 ∷ 0xAC ∷ 0x00 ∷ 0x0D ∷ [])
    × (drop 78 (octets_of_units (0x20AC ∷ [])) ≡ 0x00 ∷ 0x0D ∷ 0x00 ∷ 0x0D ∷ [])
page = (refl, refl)

-- octets in pairs
pairs : units_of_octets (0x20 ∷ 0xAC ∷ 0x00 ∷ 0x0D ∷ []) ≡ 0x20AC ∷ 0x000D ∷ []
pairs = refl
