-- What comes of the packets of a capture file. They are taken from the first on, each by a step, which may find it at
-- fault.
use Rattle.std.specs.Prelude.{◌≡◌, ℕ, ◌+◌, ◌<◌, ◌≤◌, ◌⊎◌, false, true, List, [], ◌∷◌, ◌++◌, length, take, Some, None}
use Rattle.std.specs.Prelude.{Result, Ok, Err}
use Rattle.std.specs.List.{flat_map}
use Rattle.gsmtap.specs.File.{Packet, is_pcapng, link_number, link_numbered, octet_order_of, unit_of}
use Rattle.gsmtap.specs.Pieces.{BringAll, IsCutPiece, IsWrongPiece}
use Rattle.gsmtap.specs.Section.{Section}
use Rattle.gsmtap.specs.declared.fault.AirFault.{AirFault}
use Rattle.gsmtap.specs.declared.fault.AirFaultKind.{AirFaultKind}
use Rattle.gsmtap.specs.declared.fault.AirFaultKind.TheVariants as kind
use Rattle.gsmtap.specs.declared.file.Link.{Link}
use Rattle.gsmtap.specs.declared.file.OctetOrder.{OctetOrder}
use Rattle.gsmtap.specs.declared.file.OctetOrder.TheVariants.{LowFirst}
use Rattle.gsmtap.specs.declared.pieces.Format.TheVariants.{Classic, Pcapng}

-- what is known before the first packet, and what after one more, or why that is at fault
pub record Taking (S : Type 0) : Type 0 where
  pub start : S
  pub step : S → Packet → Result S AirFaultKind

-- what is known after packets that follow each other, of which the first has this number
abbrev pub after_packets : {S : Type 0} → (step : S → Packet → Result S AirFaultKind) → (number : ℕ) →
    Result S AirFaultKind → List Packet → Result S AirFault
after_packets step number (Ok known) [] = Ok known
after_packets step number (Err why) [] = Err (record { packet = number; kind = why })
after_packets step number (Ok known) (packet ∷ rest) = after_packets step (number + 1) (step known packet) rest
after_packets step number (Err why) (packet ∷ rest) = Err (record { packet = number; kind = why })

-- what comes of all packets, from the first on
unfoldable pub taken : {S : Type 0} → Taking S → List Packet → Result S AirFault
taken by packets = after_packets by.step 0 (Ok by.start) packets

-- octets begin with whole pieces, of which the first begins here, and whose packets are this many and no fault; then
-- comes the rest. This is known after them
pub record AreTaken {S : Type 0} (by : Taking S) (here : Section) (octets : List ℕ) (there : Section) (rest : List ℕ)
    (number : ℕ) (known : S) : Type 0
  where
    pub pieces : List (List ℕ)
    pub packets : List Packet
    pub split : octets ≡ flat_map (λ piece. piece) pieces ++ rest
    pub bring : BringAll here pieces there packets
    pub many : length packets ≡ number
    pub are_taken : taken by packets ≡ Ok known

-- octets are whole pieces, of which this is known
pub record AreKnown {S : Type 0} (by : Taking S) (here : Section) (octets : List ℕ) (known : S) : Type 0 where
  pub there : Section
  pub number : ℕ
  pub are : AreTaken by here octets there [] number known

-- octets begin with whole pieces that are no fault, and of the rest this is so. So many packets are before it, and one
pub record EndsWith {S : Type 0} (by : Taking S) (here : Section) (octets : List ℕ) (IsSo : Section → List ℕ → Type 0)
    (number : ℕ) : Type 0
  where
    pub there : Section
    pub rest : List ℕ
    pub before : ℕ
    pub known : S
    pub are : AreTaken by here octets there rest before known
    pub so : IsSo there rest
    pub numbered : number ≡ before + 1

-- octets begin with whole pieces, whose last packet has this fault, and no earlier one is at fault
pub record HasWrongPacket {S : Type 0} (by : Taking S) (here : Section) (octets : List ℕ) (fault : AirFault) : Type 0
  where
    pub pieces : List (List ℕ)
    pub packets : List Packet
    pub there : Section
    pub rest : List ℕ
    pub split : octets ≡ flat_map (λ piece. piece) pieces ++ rest
    pub bring : BringAll here pieces there packets
    pub are_taken : taken by packets ≡ Err fault
    pub numbered : fault.packet ≡ length packets

-- a classic file begins with a header that is known, and goes on with these octets
pub record OpensClassic (input : List ℕ) (section : Section) (rest : List ℕ) : Type 0 where
  pub header : List ℕ
  pub split : input ≡ header ++ rest
  pub long : length header ≡ 24
  pub order : OctetOrder
  pub order_is : octet_order_of header ≡ Some order
  pub link : Link
  pub link_is : link_numbered (link_number order header) ≡ Some link
  pub section_is : section
      ≡ record { format = Classic (link_number order header) (unit_of order header); order = order; interfaces = [] }

-- before the first block, which says the order
abbrev pub no_section : Section
no_section = record { format = Pcapng; order = LowFirst; interfaces = [] }

-- a file of pcapng has nothing before its blocks
pub record OpensPcapng (input : List ℕ) (section : Section) (rest : List ℕ) : Type 0 where
  pub begins : is_pcapng input ≡ true
  pub rest_is : rest ≡ input
  pub section_is : section ≡ no_section

abbrev pub Opens : (input : List ℕ) → Section → (rest : List ℕ) → Type 0
Opens input section rest = OpensClassic input section rest ⊎ OpensPcapng input section rest

-- the input is a capture file, and this is so of the octets from its first piece on
pub record IsFileWith (input : List ℕ) (IsSo : Section → List ℕ → Type 0) : Type 0 where
  pub here : Section
  pub after : List ℕ
  pub opens : Opens input here after
  pub so : IsSo here after

-- the input is a capture file of whole pieces, and this is known after its packets
abbrev pub ComesTo : {S : Type 0} → Taking S → (input : List ℕ) → S → Type 0
ComesTo by input known = IsFileWith input (λ here after. AreKnown by here after known)

-- the header is cut, or its magic number isn't known, and it isn't that of pcapng; or the link type isn't known
pub record IsNoCapture (input : List ℕ) : Type 0 where
  pub classic : is_pcapng input ≡ false
  pub unknown : (length input < 24) ⊎ (octet_order_of (take 24 input) ≡ None)

pub record IsOtherLink (input : List ℕ) (number : ℕ) : Type 0 where
  pub classic : is_pcapng input ≡ false
  pub long : 24 ≤ length input
  pub order : OctetOrder
  pub order_is : octet_order_of (take 24 input) ≡ Some order
  pub number_is : number ≡ link_number order (take 24 input)
  pub unknown : link_numbered number ≡ None

-- why nothing comes of an input, but for out of memory
abbrev pub IsFileFault : {S : Type 0} → Taking S → List ℕ → (packet : ℕ) → AirFaultKind → Type 0
IsFileFault by input packet kind.NoCapture = (packet ≡ 0) × IsNoCapture input
IsFileFault by input packet (kind.OtherLink number) =
    ((packet ≡ 0) × IsOtherLink input number)
    ⊎ IsFileWith input (λ here after. HasWrongPacket by here after
    (record { packet = packet; kind = kind.OtherLink number }))
IsFileFault by input packet kind.Short = IsFileWith input (λ here after. EndsWith by here after IsCutPiece packet)
IsFileFault by input packet kind.WrongBlock = IsFileWith input
    (λ here after. EndsWith by here after IsWrongPiece packet)
IsFileFault by input packet kind.Differs =
    IsFileWith input (λ here after. HasWrongPacket by here after (record { packet = packet; kind = kind.Differs }))
IsFileFault by input packet kind.StepsBack =
    IsFileWith input (λ here after. HasWrongPacket by here after (record { packet = packet; kind = kind.StepsBack }))
IsFileFault by input packet kind.NoBlock = ⊥
IsFileFault by input packet kind.Refused = packet ≡ 0
