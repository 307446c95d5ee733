-- Laws of captures (own), over the definitions alone: there and back.
use Rattle.std.specs.Prelude.{◌≡◌, ◌⊎◌, ℕ, ◌<◌, ◌≤◌, List, [], ◌∷◌, ◌++◌, length, Some}
use Rattle.std.specs.List.{AllByRecursion}
use Rattle.cbsp_wire.specs.declared.message.Cell.{Cell}
use Rattle.handset.specs.Tape.{max_slots, tape_octets}
use Rattle.gsmtap.specs.Capture.{Tape, capture, octets_of_tape}
use Rattle.gsmtap.specs.Tap.{anyone}
use Rattle.gsmtap.specs.TapeOfCapture.{HasNoBlock, IsAirFault, IsTapeOfCapture}
use Rattle.gsmtap.specs.TapesOfCapture.{IsTapesFault}
use Rattle.gsmtap.specs.declared.capture.Settings.{Settings}
use Rattle.gsmtap.specs.declared.capture.Slots.TheVariants.{All}
use Rattle.gsmtap.specs.declared.packet.Channel.{Channel}
use Rattle.gsmtap.specs.declared.fault.AirFault.{AirFault}
use Rattle.gsmtap.specs.declared.packet.Start.{Start}
use Rattle.gsmtap.specs.declared.tape.Wanted.{Wanted}
use Rattle.gsmtap.specs.declared.tapes.TapesFault.TheVariants as faults

-- the tape of a cell and of slots
abbrev pub tape_with : Cell → List (List ℕ) → Tape
tape_with cell slots = record { header = tape_octets cell (length slots) []; slots = slots }

-- the tape of the capture of a tape with all its slots, for as many slots, is the tape, whenever it begins
abbrev pub CaptureHasTheTape : Type 0
CaptureHasTheTape =
    (cell : Cell) (channel : Channel) (start : Start) (slots : List (List ℕ)) → 0 < length slots →
    length slots ≤ max_slots → AllByRecursion (λ slot. length slot ≡ 92) slots →
    IsTapeOfCapture (record { cell = cell; slots = Some (length slots); first_slot = 0; from = anyone })
    (capture (record { channel = channel; slots = All; start = start }) (tape_with cell slots ∷ []))
    (octets_of_tape (tape_with cell slots))

-- the capture of a tape without a slot has no block, whatever is wanted of it
abbrev pub CaptureOfNoSlotHasNoBlock : Type 0
CaptureOfNoSlotHasNoBlock =
    (settings : Settings) (cell : Cell) (wanted : Wanted) →
    HasNoBlock wanted (capture settings (tape_with cell [] ∷ []))

-- of a list of tapes this is so of one at least
abbrev pub ForOne : (IsSo : Wanted → Type 0) → List Wanted → Type 0
ForOne IsSo [] = ⊥
ForOne IsSo (one ∷ wanted) = IsSo one ⊎ ForOne IsSo wanted

-- a fault of tapes that are made together, one at least, is the fault of one of them alone
abbrev pub FaultIsOfOne : Type 0
FaultIsOfOne =
    (wanted : List Wanted) (input : List ℕ) (fault : AirFault) → 0 < length wanted →
    IsTapesFault wanted input (faults.Air fault) → ForOne (λ one. IsAirFault one input fault) wanted

-- and a tape without a block, of which so many stand before it, has none alone
pub record IsSilentAlone (wanted : List Wanted) (input : List ℕ) (place : ℕ) : Type 0 where
  pub before : List Wanted
  pub one : Wanted
  pub after : List Wanted
  pub split : wanted ≡ before ++ one ∷ after
  pub many : length before ≡ place
  pub none : HasNoBlock one input

abbrev pub SilentIsOne : Type 0
SilentIsOne =
    (wanted : List Wanted) (input : List ℕ) (place : ℕ) → IsTapesFault wanted input (faults.NoBlock place) →
    IsSilentAlone wanted input place
