-- Laws of packing (own), over every list of septets or octets.
use Rattle.std.specs.Prelude.{◌≡◌, ℕ, ◌<◌, ◌≤◌, List, length, All}
use Rattle.septets.specs.Packing.{octet_bit, filled, unpacked, IsPacked, IsUnpacked}

-- two packings of the same septets are the same octets
abbrev pub PackingIsUnique : Type 0
PackingIsUnique =
    (septets octets others : List ℕ) → IsPacked septets octets → IsPacked septets others → octets ≡ others

-- octets give back the septets that were packed into them, filled
abbrev pub UnpackingGivesBack : Type 0
UnpackingGivesBack =
    (septets octets : List ℕ) → All (λ septet. septet < 128) septets → length septets ≤ 93
    → IsPacked septets octets → unpacked octets ≡ filled septets

-- the 93 septets of any octets are the ones that these carry
abbrev pub UnpackingIsBitwise : Type 0
UnpackingIsBitwise = (octets : List ℕ) → IsUnpacked octets (unpacked octets)

-- octets that differ in their spare bits alone carry the same septets
abbrev pub SpareBitsAreIgnored : Type 0
SpareBitsAreIgnored =
    (octets others : List ℕ) → ((i : ℕ) → i < 651 → octet_bit octets i ≡ octet_bit others i)
    → unpacked octets ≡ unpacked others
