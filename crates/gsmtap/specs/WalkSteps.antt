-- Steps of a walk over a capture file that comes in parts. Contracts of private functions alone speak of it.
use Rattle.std.specs.Prelude.{◌≡◌, ℕ, ◌<◌, ◌^◌, List, length}
use Rattle.gsmtap.specs.File.{Packet}
use Rattle.gsmtap.specs.Taken.{Taking}
use Rattle.gsmtap.specs.Walk.{AreLeft, IsUnopened}
use Rattle.gsmtap.specs.declared.frontier.Frontier.{Frontier}
use Rattle.gsmtap.specs.declared.walk.WalkStage.TheVariants as stage
use Rattle.gsmtap.specs.declared.walk.Walk.{Walk}

-- before a file is opened
pub record IsToOpen {G T : Type 0} (HasTaken : G → List Packet → T → Type 0) (given : G) (input : List ℕ)
    (walk : Walk T) : Type 0
  where
    pub stage_is : walk.stage ≡ stage.Begin
    pub unopened : IsUnopened (HasTaken given) input walk.front walk.left.items

-- before pieces are taken of what is left
pub record IsToTake {G S T : Type 0} (taking : G → Taking S) (HasTaken : G → List Packet → T → Type 0) (given : G)
    (input : List ℕ) (walk : Walk T) : Type 0
  where
    pub stage_is : walk.stage ≡ stage.Pieces
    pub left : AreLeft (taking given) (HasTaken given) input walk.front walk.left.items

-- these octets are left of some file, whose packets can be counted, and which are taken for something
pub record AreLeftOfSome {G S T : Type 0} (taking : G → Taking S) (HasTaken : G → List Packet → T → Type 0)
    (front : Frontier T) (left : List ℕ) : Type 0
  where
    pub given : G
    pub input : List ℕ
    pub are : AreLeft (taking given) (HasTaken given) input front left
    pub few : length input < 2 ^ 48
