-- What is known of a capture file that comes in parts, and of a taker that its packets are handed to.
use Rattle.std.specs.Prelude.{◌≡◌, ℕ, ◌+◌, ◌<◌, ◌^◌, ◌⊎◌, false, List, [], ◌++◌, length}
use Rattle.gsmtap.specs.File.{Packet, is_pcapng}
use Rattle.gsmtap.specs.PieceSteps.{section_of}
use Rattle.gsmtap.specs.Pieces.{BeginWithPackets, IsCutPiece}
use Rattle.gsmtap.specs.Section.{Section}
use Rattle.gsmtap.specs.Taken.{IsFileFault, Opens, Taking}
use Rattle.gsmtap.specs.Taker.{IsAfter}
use Rattle.gsmtap.specs.declared.fault.AirFault.{AirFault}
use Rattle.gsmtap.specs.declared.frontier.Frontier.{Frontier}
use Rattle.gsmtap.specs.declared.walk.WalkStage.{WalkStage}
use Rattle.gsmtap.specs.declared.walk.WalkStage.TheVariants as stage
use Rattle.gsmtap.specs.declared.walk.Walk.{Walk}

-- of the octets of a file that came by now, all whole pieces before these were taken
pub record AreLeft {S T : Type 0} (by : Taking S) (Has : List Packet → T → Type 0) (input : List ℕ)
    (front : Frontier T) (left : List ℕ) : Type 0
  where
    pub here : Section
    pub after : List ℕ
    pub packets : List Packet
    pub known : S
    pub opens : Opens input here after
    pub begin : BeginWithPackets here after (section_of front.reader) left packets
    pub is : IsAfter by Has packets known front.packets front.taker

-- no piece is whole in these octets
abbrev pub HaveNoPiece : Section → List ℕ → Type 0
HaveNoPiece section left = (left ≡ []) ⊎ IsCutPiece section left

-- a file that begins with these octets has this fault, whatever follows them
abbrev pub IsLastingFault : {S : Type 0} → Taking S → (input : List ℕ) → AirFault → Type 0
IsLastingFault by input fault = (more : List ℕ) → IsFileFault by (input ++ more) fault.packet fault.kind

-- too few octets came to say what the file is, and nothing was taken of them
pub record IsUnopened {T : Type 0} (Has : List Packet → T → Type 0) (input : List ℕ) (front : Frontier T)
    (left : List ℕ) : Type 0
  where
    pub left_are : left ≡ input
    pub has : Has [] front.taker
    pub number : front.packets ≡ 0

pub record HasNoBegin (input : List ℕ) : Type 0 where
  pub classic : is_pcapng input ≡ false
  pub short : length input < 24

-- how far the walk over a file has come, of which these octets came by now: none of its pieces was taken yet, or all
-- that are whole, or it has a fault
abbrev pub StandsAt : {S T : Type 0} → WalkStage → Taking S → (Has : List Packet → T → Type 0) → (input : List ℕ) →
    Frontier T → (left : List ℕ) → Type 0
StandsAt stage.Begin by Has input front left = IsUnopened Has input front left × HasNoBegin input
StandsAt stage.Pieces by Has input front left =
    AreLeft by Has input front left × HaveNoPiece (section_of front.reader) left
StandsAt (stage.Fault fault) by Has input front left = IsLastingFault by input fault

-- for this a walk is over a file of which these octets came by now
pub record IsWalkOf {G S T : Type 0} (taking : G → Taking S) (HasTaken : G → List Packet → T → Type 0) (given : G)
    (input : List ℕ) (walk : Walk T) : Type 0
  where
    pub stands : StandsAt walk.stage (taking given) (HasTaken given) input walk.front walk.left.items

-- for something this is so of a walk and of the octets of some file, which a number more leaves few enough to count
-- packets
pub record OfSome {G T : Type 0} (IsOf : G → List ℕ → Walk T → Type 0) (walk : Walk T) (more : ℕ) : Type 0 where
  pub given : G
  pub input : List ℕ
  pub is : IsOf given input walk
  pub few : length input + more < 2 ^ 48
