-- Steps over the pieces of a file. Contracts of private functions alone speak of it.
use Rattle.std.specs.Prelude.{◌≡◌, ℕ, List, ◌++◌, Option, Some, None}
use Rattle.gsmtap.specs.File.{Packet}
use Rattle.gsmtap.specs.Pieces.{IsCutPiece, IsPiece, IsWrongPiece}
use Rattle.gsmtap.specs.Section.{Meaning, Section}
use Rattle.gsmtap.specs.declared.fault.AirFaultKind.{AirFaultKind}
use Rattle.gsmtap.specs.declared.fault.AirFaultKind.TheVariants as kind
use Rattle.gsmtap.specs.declared.pieces.Captured.{Captured}
use Rattle.gsmtap.specs.declared.pieces.Found.{Found}
use Rattle.gsmtap.specs.declared.pieces.Found.TheVariants as found
use Rattle.gsmtap.specs.declared.pieces.Reader.{Reader}

-- what a reader knows
abbrev pub section_of : Reader → Section
section_of reader = record { format = reader.format; order = reader.order; interfaces = reader.interfaces.items }

-- a packet that was found
abbrev pub packet_of : Captured → Packet
packet_of packet = record { link = packet.link; time = packet.time; octets = packet.octets.now }

-- what was found in a piece, and is known after it
abbrev pub meant : Section → Found → Option Meaning
meant section (found.Packet packet) =
    Some (record { section = section; packet = Some (packet_of packet) })
meant section found.Nothing = Some (record { section = section; packet = None })
meant section found.Wrong = None

-- octets begin with a piece, before the rest
pub record BeginsWithPiece (section : Section) (octets piece rest : List ℕ) : Type 0 where
  pub is : IsPiece section piece
  pub split : octets ≡ piece ++ rest

-- why octets begin with no piece
abbrev pub IsFrontFault : Section → List ℕ → AirFaultKind → Type 0
IsFrontFault section octets kind.NoCapture = ⊥
IsFrontFault section octets (kind.OtherLink number) = ⊥
IsFrontFault section octets kind.Short = IsCutPiece section octets
IsFrontFault section octets kind.WrongBlock = IsWrongPiece section octets
IsFrontFault section octets kind.Differs = ⊥
IsFrontFault section octets kind.StepsBack = ⊥
IsFrontFault section octets kind.NoBlock = ⊥
IsFrontFault section octets kind.Refused = ⊥
