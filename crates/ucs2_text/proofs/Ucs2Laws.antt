-- The laws of UCS-2 text.
use Rattle.std.proofs.Common.{◌≡◌, ℕ, ◌+◌, ◌-◌, ◌*◌, ◌/◌, ◌%◌, ◌<◌, zero, suc, All, List, [], ◌∷◌, map, length}
use Rattle.std.proofs.Common.{replicate, refl, ap, ◌∙◌, arith}
use Rattle.std.proofs.lemmas.Bool.{lt-ltb}
use Rattle.std.proofs.lemmas.Bool.Decides.{nat_tests}
use Rattle.std.proofs.lemmas.List.{append-nil}
use Rattle.std.proofs.lemmas.List.Elements.{All-nil, All-cons, All-head, All-tail, All-append, All-replicate}
use Rattle.std.proofs.Math.Utf8.{scalar_cases}
use Rattle.std.specs.Char.{IsScalar}
use Rattle.std.specs.List.{flat_map}
use Rattle.ucs2_text.specs.Ucs2.{character_of_unit, octets_of_unit, page_units, units_of_octets}
use Rattle.ucs2_text.specs.Laws.{UnitsComeBack, OctetsComeBack, PutsWholePages, ReadsWholePages, CharactersComeBack}
use Rattle.ucs2_text.specs.Laws.{UnitsShowScalars}
use Rattle.ucs2_text.proofs.Places.{length-octets_of_units, length-units_of_octets}

-- the octets of some units make those units
units_of_octets-octets : (units : List ℕ) → units_of_octets (flat_map octets_of_unit units) ≡ units
units_of_octets-octets [] = refl
units_of_octets-octets (unit ∷ units) =
    let whole : 256 * (unit / 256) + unit % 256 ≡ unit = omega arith in
    rw (whole, units_of_octets-octets units)

-- the units that were written are read back
pub units_come_back : UnitsComeBack
units_come_back units = units_of_octets-octets (page_units units)

-- pairs of octets make units of those octets
octets-units_of_octets : (n : ℕ) (octets : List ℕ) → length octets ≡ 2 * n → All (λ octet. octet < 256) octets
    → flat_map octets_of_unit (units_of_octets octets) ≡ octets
octets-units_of_octets zero [] whole small = refl
octets-units_of_octets zero (high ∷ octets) whole small = absurd (omega arith)
octets-units_of_octets (suc n) [] whole small = absurd (omega arith)
octets-units_of_octets (suc n) (high ∷ []) whole small = absurd (omega arith)
octets-units_of_octets (suc n) (high ∷ low ∷ octets) whole small =
    let small_rest = All-tail (λ octet. octet < 256) high (low ∷ octets) small in
    let small_low : low < 256 = All-head (λ octet. octet < 256) low octets small_rest in
    let high_is : (256 * high + low) / 256 ≡ high = omega arith in
    let low_is : (256 * high + low) % 256 ≡ low = omega arith in
    let rest = octets-units_of_octets n octets (omega arith) (All-tail (λ octet. octet < 256) low octets small_rest) in
    rw (high_is, low_is, rest)

-- the octets that were read are written again
pub octets_come_back : OctetsComeBack
octets_come_back octets whole small =
    let none : 41 - length (units_of_octets octets) ≡ 0 = omega (arith, length-units_of_octets 41 octets whole) in
    rw none
    (ap (flat_map octets_of_unit) (append-nil (units_of_octets octets)) ∙ octets-units_of_octets 41 octets whole small)

small-octets : (units : List ℕ) → All (λ unit. unit < 65536) units
    → All (λ octet. octet < 256) (flat_map octets_of_unit units)
small-octets [] small = All-nil (λ octet. octet < 256)
small-octets (unit ∷ units) small =
    let small_unit : unit < 65536 = All-head (λ x. x < 65536) unit units small in
    All-cons (λ x. x < 256) (unit / 256) (unit % 256 ∷ flat_map octets_of_unit units) (omega arith)
    (All-cons (λ x. x < 256) (unit % 256) (flat_map octets_of_unit units) (omega arith)
    (small-octets units (All-tail (λ x. x < 65536) unit units small)))

-- what is written fills a page
pub puts_whole_pages : PutsWholePages
puts_whole_pages units short small = (
  length-octets_of_units units short,
  small-octets (page_units units)
      (All-append (λ x. x < 65536) units (replicate (41 - length units) 13) small
      (All-replicate (λ x. x < 65536) (41 - length units) 13 (omega arith))),
)

small-units : (n : ℕ) (octets : List ℕ) → length octets ≡ 2 * n → All (λ octet. octet < 256) octets
    → All (λ unit. unit < 65536) (units_of_octets octets)
small-units zero [] whole small = All-nil (λ unit. unit < 65536)
small-units zero (high ∷ octets) whole small = absurd (omega arith)
small-units (suc n) [] whole small = absurd (omega arith)
small-units (suc n) (high ∷ []) whole small = absurd (omega arith)
small-units (suc n) (high ∷ low ∷ octets) whole small =
    let small_rest = All-tail (λ octet. octet < 256) high (low ∷ octets) small in
    let small_high : high < 256 = All-head (λ octet. octet < 256) high (low ∷ octets) small in
    let small_low : low < 256 = All-head (λ octet. octet < 256) low octets small_rest in
    All-cons (λ x. x < 65536) (256 * high + low) (units_of_octets octets) (omega arith)
    (small-units n octets (omega arith) (All-tail (λ octet. octet < 256) low octets small_rest))

-- a page has 41 units
pub reads_whole_pages : ReadsWholePages
reads_whole_pages octets whole small = (length-units_of_octets 41 octets whole, small-units 41 octets whole small)

-- a scalar value is its own unit's character
pub character_of_unit-scalar : (character : ℕ) → IsScalar character → character_of_unit character ≡ character
character_of_unit-scalar character scalar =
    let cases = scalar_cases character scalar in
    grind (arith, nat_tests)

-- the characters of a text are read back from its units
pub characters_come_back : CharactersComeBack
characters_come_back character scalar below =
    rw (lt-ltb character 65536 below) (below, character_of_unit-scalar character scalar)

-- what units show are scalar values
pub units_show_scalars : UnitsShowScalars
units_show_scalars unit below = (grind (arith, nat_tests), grind (arith, nat_tests))

-- the characters of units that are scalar values are those values
pub map-character_of_unit : (characters : List ℕ) → All IsScalar characters
    → map character_of_unit characters ≡ characters
map-character_of_unit [] all = refl
map-character_of_unit (character ∷ characters) all =
    rw (
      character_of_unit-scalar character (All-head IsScalar character characters all),
      map-character_of_unit
          characters (All-tail IsScalar character characters all),
    )
