-- UCS-2 of a page (3GPP TS 23.038, clause 6.2.3): a character is a unit of 16 bits, sent as two octets, the high one
-- first.
use Rattle.std.specs.Prelude.{ℕ, ◌+◌, ◌-◌, ◌*◌, ◌/◌, ◌%◌, Option, Some, None, if◌then◌else◌, nat_lt, List, [], ◌∷◌}
use Rattle.std.specs.Prelude.{◌++◌, length, replicate}
use Rattle.std.specs.Int.{is_in_range}
use Rattle.std.specs.List.{flat_map}

-- the unit of a character, if 16 bits hold it
abbrev pub unit_of_character : ℕ → Option ℕ
unit_of_character character = if nat_lt character 65536 then Some character else None

-- the character of a unit; a surrogate has none and shows the replacement character (own)
abbrev pub character_of_unit : ℕ → ℕ
character_of_unit unit = if is_in_range 0xD800 0xDFFF unit then 0xFFFD else unit

-- the two octets of a unit, the high one first
abbrev pub octets_of_unit : ℕ → List ℕ
octets_of_unit unit = unit / 256 ∷ unit % 256 ∷ []

-- the units of a page: those of its text, and carriage returns up to 41
abbrev pub page_units : List ℕ → List ℕ
page_units units = units ++ replicate (41 - length units) 13

-- the octets of a page
abbrev pub octets_of_units : List ℕ → List ℕ
octets_of_units units = flat_map octets_of_unit (page_units units)

-- the units that pairs of octets make, the high one first; a last octet alone makes none
abbrev pub units_of_octets : List ℕ → List ℕ
units_of_octets [] = []
units_of_octets (high ∷ []) = []
units_of_octets (high ∷ low ∷ rest) = (256 * high + low) ∷ units_of_octets rest
