-- Steps over the packets of a file. Contracts of steps speak of it.
use Rattle.std.specs.Prelude.{◌≡◌, ℕ, List, Option, Some, None, Result, Ok, Err}
use Rattle.gsmtap.specs.File.{Packet}
use Rattle.gsmtap.specs.PieceSteps.{packet_of}
use Rattle.gsmtap.specs.Pieces.{IsCutPiece, IsWrongPiece}
use Rattle.gsmtap.specs.Section.{Section}
use Rattle.gsmtap.specs.Taken.{EndsWith, HasWrongPacket, IsNoCapture, IsOtherLink, Taking}
use Rattle.gsmtap.specs.Track.{Known}
use Rattle.gsmtap.specs.declared.fault.AirFaultKind.{AirFaultKind}
use Rattle.gsmtap.specs.declared.fault.AirFaultKind.TheVariants as kind
use Rattle.gsmtap.specs.declared.pieces.Found.{Found}
use Rattle.gsmtap.specs.declared.pieces.Found.TheVariants as found
use Rattle.gsmtap.specs.declared.track.Air.{Air}
use Rattle.gsmtap.specs.declared.track.Track.{Track}

-- what is known by now
abbrev pub known_of : Air → Known
known_of air = record { track = air.track; blocks = air.blocks.items }

-- the latest slot in which a block was placed
abbrev pub last_slot : Option Track → ℕ
last_slot None = 0
last_slot (Some track) = track.slot

-- how many packets were found
abbrev pub count_of : Found → ℕ
count_of (found.Packet packet) = 1
count_of found.Nothing = 0
count_of found.Wrong = 0

-- what is known after what was found in a piece
abbrev pub after_found : {S : Type 0} → (step : S → Packet → Result S AirFaultKind) → S → Found →
    Result S AirFaultKind
after_found step known (found.Packet packet) = step known (packet_of packet)
after_found step known found.Nothing = Ok known
after_found step known found.Wrong = Err kind.WrongBlock

-- why octets are no pieces whose packets are taken
abbrev pub IsPieceFaultOf : {S : Type 0} → Taking S → Section → List ℕ → (packet : ℕ) → AirFaultKind → Type 0
IsPieceFaultOf by here octets packet kind.NoCapture = ⊥
IsPieceFaultOf by here octets packet (kind.OtherLink number) =
    HasWrongPacket by here octets (record { packet = packet; kind = kind.OtherLink number })
IsPieceFaultOf by here octets packet kind.Short = EndsWith by here octets IsCutPiece packet
IsPieceFaultOf by here octets packet kind.WrongBlock = EndsWith by here octets IsWrongPiece packet
IsPieceFaultOf by here octets packet kind.Differs =
    HasWrongPacket by here octets (record { packet = packet; kind = kind.Differs })
IsPieceFaultOf by here octets packet kind.StepsBack =
    HasWrongPacket by here octets (record { packet = packet; kind = kind.StepsBack })
IsPieceFaultOf by here octets packet kind.NoBlock = ⊥
IsPieceFaultOf by here octets packet kind.Refused = packet ≡ 0

-- a fault of a block, which is of one of two kinds
abbrev pub IsBlockKind : AirFaultKind → Type 0
IsBlockKind kind.NoCapture = ⊥
IsBlockKind (kind.OtherLink number) = ⊥
IsBlockKind kind.Short = ⊥
IsBlockKind kind.WrongBlock = ⊥
IsBlockKind kind.Differs = Unit {0}
IsBlockKind kind.StepsBack = Unit {0}
IsBlockKind kind.NoBlock = ⊥
IsBlockKind kind.Refused = ⊥

-- a fault of a packet
abbrev pub IsPacketKind : AirFaultKind → Type 0
IsPacketKind kind.NoCapture = ⊥
IsPacketKind (kind.OtherLink number) = Unit {0}
IsPacketKind kind.Short = ⊥
IsPacketKind kind.WrongBlock = ⊥
IsPacketKind kind.Differs = Unit {0}
IsPacketKind kind.StepsBack = Unit {0}
IsPacketKind kind.NoBlock = ⊥
IsPacketKind kind.Refused = ⊥

-- a fault of what was found in a piece
abbrev pub IsFoundKind : Found → AirFaultKind → Type 0
IsFoundKind (found.Packet packet) why = IsPacketKind why
IsFoundKind found.Nothing why = ⊥
IsFoundKind found.Wrong why = why ≡ kind.WrongBlock

-- a fault of a file's begin
abbrev pub IsBeginFault : List ℕ → AirFaultKind → Type 0
IsBeginFault input kind.NoCapture = IsNoCapture input
IsBeginFault input (kind.OtherLink number) = IsOtherLink input number
IsBeginFault input kind.Short = ⊥
IsBeginFault input kind.WrongBlock = ⊥
IsBeginFault input kind.Differs = ⊥
IsBeginFault input kind.StepsBack = ⊥
IsBeginFault input kind.NoBlock = ⊥
IsBeginFault input kind.Refused = ⊥
