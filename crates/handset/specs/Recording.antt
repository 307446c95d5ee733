-- What a tape holds: a cell, the number of its slots and their blocks, as they were sent. Own.
use Rattle.std.specs.Prelude.{◌≡◌, ℕ, ◌≤◌, List, [], ◌∷◌, ◌++◌, length, Option, IfSome}
use Rattle.std.specs.Io.KnownBytes.{Consumes}
use Rattle.cbsp_wire.specs.declared.message.Cell.{Cell}
use Rattle.handset.specs.Reception.{shown_in}
use Rattle.handset.specs.Tape.{TapeReading, AreSlots, cell_in, max_slots, max_tapes, octets_of_blocks, slots_in}
use Rattle.handset.specs.Tape.{IsTapesFault}
use Rattle.handset.specs.TapeExtent.{StopsAt}
use Rattle.handset.specs.declared.tape.TapeFault.{TapeFault}

pub record TapeRecording : Type 0 where
  pub cell : Cell
  pub slots : ℕ
  pub blocks : List (List ℕ)

-- what a handset reads of it
abbrev pub reading_of_recording : TapeRecording → TapeReading
reading_of_recording r = record { cell = r.cell; slots = r.slots; shown = shown_in r.blocks }

-- octets are the tape that holds this: a header of eight, and the blocks of as many slots as it says
pub record HoldsRecording (octets : List ℕ) (r : TapeRecording) : Type 0 where
  pub header : List ℕ
  pub joined : octets ≡ header ++ octets_of_blocks r.blocks
  pub eight : length header ≡ 8
  pub few : slots_in header ≤ max_slots
  pub slots : AreSlots (slots_in header) r.blocks
  pub cell_is : r.cell ≡ cell_in header
  pub slots_are : r.slots ≡ slots_in header

-- octets are whole tapes, one after another, that hold these
abbrev pub AreJoinedRecordings : List ℕ → List TapeRecording → Type 0
AreJoinedRecordings octets [] = octets ≡ []
AreJoinedRecordings octets (r ∷ rest) =
    (tape : List ℕ) × (after : List ℕ) × (octets ≡ tape ++ after) × HoldsRecording tape r
    × AreJoinedRecordings after rest

-- tapes up to the end of an input, at most 64, hold these
pub record AreRecordings (input : List ℕ) (recordings : List TapeRecording) : Type 0 where
  pub joined : AreJoinedRecordings input recordings
  pub few : length recordings ≤ max_tapes

-- what takes recordings took those of the input's tapes, in order, and of some octets' tapes where the input isn't
-- known; `HasTaken` says which recordings it has, for what it takes them
pub record AreRecorded {G T : Type 0} (HasTaken : G → T → List TapeRecording → Type 0) (input : Option (List ℕ))
    (old new : T) : Type 0 where
  pub recordings : List TapeRecording
  pub of_input : IfSome input (λ octets. AreRecordings octets recordings)
  pub of_some : (octets : List ℕ) × AreRecordings octets recordings
  pub taken : (given : G) (before : List TapeRecording) → HasTaken given old before
      → HasTaken given new (before ++ recordings)

-- the reader gave whole tapes, one after another, that hold these
pub record ReadsRecordings (old new : Option (List ℕ)) (recordings : List TapeRecording) : Type 0 where
  pub octets : List ℕ
  pub consumed : Consumes old new octets
  pub joined : AreJoinedRecordings octets recordings

-- the reader gave the tape that holds this
pub record ReadsRecording (old new : Option (List ℕ)) (r : TapeRecording) : Type 0 where
  pub octets : List ℕ
  pub consumed : Consumes old new octets
  pub holds : HoldsRecording octets r

-- so many tapes of an input were read before, whatever they hold, and there are no more, since they were all
abbrev pub GivesNoMore : (count : ℕ) (left : Option (List ℕ)) → Type 0
GivesNoMore count left = (first : Option (List ℕ)) (before : List TapeRecording)
    → ReadsRecordings first left before
    → length before ≡ count
    → IfSome first (λ input. AreRecordings input before) × ((octets : List ℕ) × AreRecordings octets before)

-- or the input, of which so many were read, has this fault; and so far it was read then
abbrev pub GivesFault : (count : ℕ) (left : Option (List ℕ)) → TapeFault → Type 0
GivesFault count left fault = (first : Option (List ℕ)) (before : List TapeRecording)
    → ReadsRecordings first left before
    → length before ≡ count
    → IfSome first (λ input. IsTapesFault input fault)

abbrev pub StopsAfter : (count : ℕ) (left new : Option (List ℕ)) → TapeFault → Type 0
StopsAfter count left new fault = (first : Option (List ℕ)) (before : List TapeRecording)
    → ReadsRecordings first left before
    → length before ≡ count
    → StopsAt max_tapes first new fault
