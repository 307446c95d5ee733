-- What `warnc whole` makes of the octets that it reads: tapes with four blocks of each page. Own.
use Rattle.std.specs.Prelude.{◌≡◌, ℕ, List, Option, map}
use Rattle.std.specs.List.{flat_map}
use Rattle.handset.specs.Recording.{TapeRecording, AreRecordings}
use Rattle.handset.specs.Tape.{TapeReading, AreTapes, tape_octets}
use Rattle.short_pages.specs.Slots.{AreReadingsOnAir, completed, completed_recording}
use Rattle.warnc_inspect.specs.ReadOutput.{IsFaultOf}
use Rattle.warnc_inspect.specs.declared.read.ReadCommandFault.{ReadCommandFault}

-- the tape of the same cell with as many slots, in which each page has four blocks
abbrev pub whole_tape : TapeRecording → List ℕ
whole_tape tape = tape_octets tape.cell tape.slots (completed tape.blocks)

abbrev pub whole_tapes : List TapeRecording → List ℕ
whole_tapes tapes = flat_map whole_tape tapes

-- what is written for the octets that were read: they are whole tapes, and these are theirs
pub record IsWholeOutput (input output : List ℕ) : Type 0 where
  pub recordings : List TapeRecording
  pub tapes : AreRecordings input recordings
  pub written : output ≡ whole_tapes recordings

-- why no tape is written
abbrev pub IsWholeFault : (input : List ℕ) (old new : Option (List ℕ)) → ReadCommandFault → Type 0
IsWholeFault = IsFaultOf IsWholeOutput

-- Laws (own).

-- the whole tapes of an input hold what its tapes hold, with four blocks of each page
abbrev pub WholeTapesHold : Type 0
WholeTapesHold = (input output : List ℕ) (recordings : List TapeRecording) → IsWholeOutput input output
    → AreRecordings input recordings
    → AreRecordings output (map completed_recording recordings)

-- so a handset shows of them what the input's tapes show by all their pages
abbrev pub WholeTapesShow : Type 0
WholeTapesShow = (input output : List ℕ) (readings : List TapeReading) → IsWholeOutput input output
    → AreReadingsOnAir input readings
    → AreTapes output readings
