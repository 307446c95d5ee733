-- Laws of UCS-2 text (own), over every list of units or octets.
use Rattle.std.specs.Prelude.{◌≡◌, ℕ, ◌-◌, ◌<◌, ◌≤◌, All, IsSomeAnd, List, ◌++◌, length, replicate}
use Rattle.std.specs.Char.{IsScalar}
use Rattle.ucs2_text.specs.Ucs2.{unit_of_character, character_of_unit, octets_of_units, units_of_octets}

-- units that are put and read come back, and after them what fills the page
abbrev pub UnitsComeBack : Type 0
UnitsComeBack = (units : List ℕ) → units_of_octets (octets_of_units units) ≡ units ++ replicate (41 - length units) 13

-- octets of a page that are read and put come back
abbrev pub OctetsComeBack : Type 0
OctetsComeBack =
    (octets : List ℕ) → length octets ≡ 82 → All (λ octet. octet < 256) octets →
    octets_of_units (units_of_octets octets) ≡ octets

-- at most 41 units make 82 octets
abbrev pub PutsWholePages : Type 0
PutsWholePages =
    (units : List ℕ) → length units ≤ 41 → All (λ unit. unit < 65536) units →
    (length (octets_of_units units) ≡ 82) × All (λ octet. octet < 256) (octets_of_units units)

-- 82 octets make 41 units
abbrev pub ReadsWholePages : Type 0
ReadsWholePages =
    (octets : List ℕ) → length octets ≡ 82 → All (λ octet. octet < 256) octets →
    (length (units_of_octets octets) ≡ 41) × All (λ unit. unit < 65536) (units_of_octets octets)

-- a character of 16 bits has a unit, which shows it again
abbrev pub CharactersComeBack : Type 0
CharactersComeBack =
    (character : ℕ) → IsScalar character → character < 65536 →
    IsSomeAnd (unit_of_character character) (λ unit. (unit < 65536) × (character_of_unit unit ≡ character))

-- what a unit shows is a Unicode scalar value of 16 bits
abbrev pub UnitsShowScalars : Type 0
UnitsShowScalars = (unit : ℕ) → unit < 65536 → IsScalar (character_of_unit unit) × (character_of_unit unit < 65536)
