-- What takes the packets of a capture file, one after the other: for what, how they are taken for that, and which it
-- has.
use Rattle.std.specs.Prelude.{◌≡◌, ℕ, ◌+◌, ◌<◌, ◌^◌, ◌⊎◌, List, [], ◌∷◌, ◌++◌, length, Ok, Err}
use Rattle.gsmtap.specs.File.{Packet}
use Rattle.gsmtap.specs.PieceSteps.{packet_of}
use Rattle.gsmtap.specs.Pieces.{BeginWithPackets}
use Rattle.gsmtap.specs.Section.{Section}
use Rattle.gsmtap.specs.Taken.{Opens, Taking, taken}
use Rattle.gsmtap.specs.TapeSteps.{IsPacketKind}
use Rattle.gsmtap.specs.declared.fault.AirFault.{AirFault}
use Rattle.gsmtap.specs.declared.fault.AirFaultKind.TheVariants as kind
use Rattle.gsmtap.specs.declared.pieces.Found.{Found}
use Rattle.gsmtap.specs.declared.pieces.Found.TheVariants as found

-- a taker has these packets, so many, and this is known after them
pub record IsAfter {S T : Type 0} (by : Taking S) (Has : List Packet → T → Type 0) (packets : List Packet) (known : S)
    (number : ℕ) (taker : T) : Type 0
  where
    pub has : Has packets taker
    pub many : length packets ≡ number
    pub comes : taken by packets ≡ Ok known

-- a taker has packets for something, so many, of which none is at fault, and which can be counted
pub record CanTake {G S T : Type 0} (taking : G → Taking S) (HasTaken : G → List Packet → T → Type 0) (taker : T)
    (before : ℕ) : Type 0
  where
    pub given : G
    pub packets : List Packet
    pub known : S
    pub is : IsAfter (taking given) (HasTaken given) packets known before taker
    pub few : before < 2 ^ 45

-- whatever a taker has packets for, one more comes to something for that, and it has this one, too
abbrev pub TakesPacket : {G S T : Type 0} → (taking : G → Taking S) → (HasTaken : G → List Packet → T → Type 0) →
    (old new : T) → (before : ℕ) → Packet → Type 0
TakesPacket {G} {S} taking HasTaken old new before packet =
    (given : G) (packets : List Packet) (known : S) → IsAfter (taking given) (HasTaken given) packets known before old →
    (next : S) × ((taking given).step known packet ≡ Ok next) × HasTaken given (packets ++ packet ∷ []) new

-- whatever a taker has packets for, the next is at fault for that
pub record IsAtFault {G S T : Type 0} (taking : G → Taking S) (HasTaken : G → List Packet → T → Type 0) (taker : T)
    (before : ℕ) (packet : Packet) (fault : AirFault) : Type 0
  where
    pub numbered : fault.packet ≡ before + 1
    pub of_packet : IsPacketKind fault.kind
    pub comes : (given : G) (packets : List Packet) (known : S) →
        IsAfter (taking given) (HasTaken given) packets known before taker →
        (taking given).step known packet ≡ Err fault.kind

-- why a packet isn't taken: it is at fault, or memory was refused
abbrev pub IsPacketFault : {G S T : Type 0} → (taking : G → Taking S) → (HasTaken : G → List Packet → T → Type 0) →
    T → (before : ℕ) → Packet → AirFault → Type 0
IsPacketFault taking HasTaken taker before packet fault =
    (fault ≡ record { packet = 0; kind = kind.Refused }) ⊎ IsAtFault taking HasTaken taker before packet fault

-- the same of what was found in a piece
abbrev pub TakesFound : {G S T : Type 0} → (taking : G → Taking S) → (HasTaken : G → List Packet → T → Type 0) →
    (old new : T) → (before : ℕ) → Found → Type 0
TakesFound taking HasTaken old new before (found.Packet packet) =
    TakesPacket taking HasTaken old new before (packet_of packet)
TakesFound taking HasTaken old new before found.Nothing = new ≡ old
TakesFound taking HasTaken old new before found.Wrong = ⊥

abbrev pub IsTakingFault : {G S T : Type 0} → (taking : G → Taking S) → (HasTaken : G → List Packet → T → Type 0) →
    T → (before : ℕ) → Found → AirFault → Type 0
IsTakingFault taking HasTaken taker before (found.Packet packet) fault =
    IsPacketFault taking HasTaken taker before (packet_of packet) fault
IsTakingFault taking HasTaken taker before found.Nothing fault = ⊥
IsTakingFault taking HasTaken taker before found.Wrong fault =
    fault ≡ record { packet = before + 1; kind = kind.WrongBlock }

-- the input is a capture file of whole pieces, a taker has its packets, and this is known after them
pub record HasTakenAll {S T : Type 0} (by : Taking S) (Has : List Packet → T → Type 0) (input : List ℕ) (taker : T)
    : Type 0
  where
    pub here : Section
    pub after : List ℕ
    pub there : Section
    pub packets : List Packet
    pub known : S
    pub opens : Opens input here after
    pub begin : BeginWithPackets here after there [] packets
    pub has : Has packets taker
    pub comes : taken by packets ≡ Ok known
