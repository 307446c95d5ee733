-- The pieces of a capture file, in either format, and the packets that they bring.
use Rattle.std.specs.Prelude.{◌≡◌, ℕ, ◌+◌, ◌<◌, ◌≤◌, ◌⊎◌, List, [], ◌∷◌, ◌++◌, length, drop, Option, Some, None}
use Rattle.std.specs.List.{flat_map}
use Rattle.gsmtap.specs.Blocks.{block_length, block_meaning, brings}
use Rattle.gsmtap.specs.File.{Packet, number_in, packet_time}
use Rattle.gsmtap.specs.Section.{Meaning, Section}
use Rattle.gsmtap.specs.declared.file.OctetOrder.{OctetOrder}
use Rattle.gsmtap.specs.declared.pieces.Format.{Format}
use Rattle.gsmtap.specs.declared.pieces.Format.TheVariants.{Classic, Pcapng}

-- how many octets say how long a piece is: those of a packet's header, or of a block's type, its length and a section's
-- magic number
abbrev pub least : Format → ℕ
least (Classic link unit) = 16
least Pcapng = 12

-- how many octets the piece has that octets begin with; none if they contradict themselves. A packet's header says how
-- many octets follow it
abbrev pub length_in : Format → OctetOrder → List ℕ → Option ℕ
length_in (Classic link unit) order octets = Some (16 + number_in order (drop 8 octets))
length_in Pcapng order octets = block_length order octets

abbrev pub piece_length : Section → List ℕ → Option ℕ
piece_length section octets = length_in section.format section.order octets

-- what a piece brings; nothing if it contradicts itself
abbrev pub meaning_of : Format → Section → List ℕ → Option Meaning
meaning_of (Classic link unit) section octets =
    brings section link (Some (packet_time section.order unit octets)) (drop 16 octets)
meaning_of Pcapng section octets = block_meaning section octets

abbrev pub meaning : Section → List ℕ → Option Meaning
meaning section octets = meaning_of section.format section octets

-- octets are one piece
pub record IsPiece (section : Section) (octets : List ℕ) : Type 0 where
  pub long : least section.format ≤ length octets
  pub whole : piece_length section octets ≡ Some (length octets)

-- the end comes inside a piece: in the octets that say how long it is, or later
pub record IsCutPiece (section : Section) (octets : List ℕ) : Type 0 where
  pub some : 0 < length octets
  pub inside : least section.format ≤ length octets →
      (size : ℕ) × (piece_length section octets ≡ Some size) × (length octets < size)

-- a piece contradicts itself: in the octets that say how long it is, or as a whole
pub record HasWrongHead (section : Section) (octets : List ℕ) : Type 0 where
  pub long : least section.format ≤ length octets
  pub unknown : piece_length section octets ≡ None

pub record HasWrongBody (section : Section) (octets : List ℕ) : Type 0 where
  pub piece : List ℕ
  pub rest : List ℕ
  pub split : octets ≡ piece ++ rest
  pub is : IsPiece section piece
  pub brings_none : meaning section piece ≡ None

abbrev pub IsWrongPiece : Section → List ℕ → Type 0
IsWrongPiece section octets = HasWrongHead section octets ⊎ HasWrongBody section octets

abbrev pub packets_in : Option Packet → List Packet
packets_in None = []
packets_in (Some packet) = packet ∷ []

-- octets are one piece, which brings this
pub record Brings (section : Section) (octets : List ℕ) (next : Meaning) : Type 0 where
  pub is : IsPiece section octets
  pub brings : meaning section octets ≡ Some next

-- pieces that follow each other, of which the first begins here, bring these packets, and this is known after them
abbrev pub BringAll : (here : Section) → List (List ℕ) → (there : Section) → List Packet → Type 0
BringAll here [] there packets = (there ≡ here) × (packets ≡ [])
BringAll here (piece ∷ rest) there packets =
    (next : Meaning) × (others : List Packet) × Brings here piece next
    × (packets ≡ packets_in next.packet ++ others) × BringAll next.section rest there others

-- octets begin with whole pieces, of which the first begins here, and which bring these packets; then comes the rest
pub record BeginWithPackets (here : Section) (octets : List ℕ) (there : Section) (rest : List ℕ)
    (packets : List Packet) : Type 0
  where
    pub pieces : List (List ℕ)
    pub split : octets ≡ flat_map (λ piece. piece) pieces ++ rest
    pub bring : BringAll here pieces there packets
