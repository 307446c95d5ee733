-- What an input's tapes hold is unique, is what a handset reads, and is what was written.
use Rattle.std.proofs.Common.{◌≡◌, ℕ, ◌/◌, ◌%◌, ◌≤◌, List, [], ◌∷◌, ◌++◌, length, refl, sym, ap, ◌∙◌, subst, arith}
use Rattle.std.proofs.lemmas.List.{length-map}
use Rattle.cbsp_wire.specs.declared.message.Cell.{Cell}
use Rattle.handset.specs.Laws.{MadeAreRecordings, RecordingsAreOne, RecordingsAreRead}
use Rattle.handset.specs.Recording.{TapeRecording, reading_of_recording, HoldsRecording, AreJoinedRecordings}
use Rattle.handset.specs.Tape.{AreSlots, cell_in, max_slots, octets_of_blocks, slots_in}
use Rattle.handset.proofs.Recordings.{tape_of, tapes_joined}
use Rattle.handset.proofs.TapeKinds.{back_same, blocks_same, front_same, tape_in_front}
use Rattle.handset.proofs.TapeMade.{pair_back, four_back}

-- what a header and blocks are
abbrev held : List ℕ → List (List ℕ) → TapeRecording
held header blocks = record { cell = cell_in header; slots = slots_in header; blocks = blocks }

is_held : (octets : List ℕ) (r : TapeRecording) (holds : HoldsRecording octets r) → r ≡ held holds.header r.blocks
is_held octets r holds =
    ap (λ (c : Cell). record { cell = c; slots = r.slots; blocks = r.blocks }) holds.cell_is
    ∙ ap (λ (n : ℕ). record { cell = cell_in holds.header; slots = n; blocks = r.blocks }) holds.slots_are

-- octets hold one
recording_same : (octets : List ℕ) (r other : TapeRecording) → HoldsRecording octets r → HoldsRecording octets other
    → r ≡ other
recording_same octets r other holds twin =
    let one = octets_of_blocks r.blocks in
    let two = octets_of_blocks other.blocks in
    let same : holds.header ++ one ≡ twin.header ++ two = sym holds.joined ∙ twin.joined in
    let long : length holds.header ≡ length twin.header = holds.eight ∙ sym twin.eight in
    let header = front_same holds.header one twin.header two same long in
    let blocks = blocks_same r.blocks other.blocks holds.slots.each twin.slots.each
    (back_same holds.header one twin.header two same long) in
    is_held octets r holds
    ∙ ap (λ (h : List ℕ). held h r.blocks) header
    ∙ ap (held twin.header) blocks
    ∙ sym (is_held octets other twin)

-- and so do the tapes of an input
recordings_same : (input : List ℕ) (recordings others : List TapeRecording) → AreJoinedRecordings input recordings
    → AreJoinedRecordings input others
    → recordings ≡ others
recordings_same input [] [] joined twin = refl
recordings_same input [] (other ∷ others) joined twin =
    let front = tape_in_front input twin.0 twin.1 (reading_of_recording other) twin.2 (tape_of twin.0 other twin.3) in
    let none : length input ≡ 0 = ap length joined in
    absurd (omega (arith, front.0, none))
recordings_same input (r ∷ recordings) [] joined twin =
    let front = tape_in_front input joined.0 joined.1 (reading_of_recording r) joined.2 (tape_of joined.0 r joined.3) in
    let none : length input ≡ 0 = ap length twin in
    absurd (omega (arith, front.0, none))
recordings_same input (r ∷ recordings) (other ∷ others) joined twin =
    let front = tape_in_front input joined.0 joined.1 (reading_of_recording r) joined.2 (tape_of joined.0 r joined.3) in
    let back = tape_in_front input twin.0 twin.1 (reading_of_recording other) twin.2 (tape_of twin.0 other twin.3) in
    let long : length joined.0 ≡ length twin.0 = front.2 ∙ sym back.2 in
    let cut : joined.0 ++ joined.1 ≡ twin.0 ++ twin.1 = sym joined.2 ∙ twin.2 in
    let tape : joined.0 ≡ twin.0 = front_same joined.0 joined.1 twin.0 twin.1 cut long in
    let after : joined.1 ≡ twin.1 = back_same joined.0 joined.1 twin.0 twin.1 cut long in
    let here = recording_same twin.0 r other (subst (λ (o : List ℕ). HoldsRecording o r) tape joined.3) twin.3 in
    let later = recordings_same twin.1 recordings others
    (subst (λ (o : List ℕ). AreJoinedRecordings o recordings) after joined.4) twin.4 in
    ap (λ (x : TapeRecording). x ∷ recordings) here ∙ ap (λ (l : List TapeRecording). other ∷ l) later

-- an input has one list of recordings
pub recordings_are_one : RecordingsAreOne
recordings_are_one input recordings others are twin = recordings_same input recordings others are.joined twin.joined

-- a recording is read as its tape is
pub recordings_are_read : RecordingsAreRead
recordings_are_read input recordings are = record {
  joined = tapes_joined input recordings are.joined;
  few = subst (λ (n : ℕ). n ≤ 64) (sym (length-map recordings reading_of_recording)) are.few;
}

-- the tapes that are made are recordings
pub made_are_recordings : MadeAreRecordings
made_are_recordings cell slots blocks few are =
    let says = four_back slots (omega (arith, few)) in record {
      header =
          (cell.lac / 256) ∷ (cell.lac % 256) ∷ (cell.ci / 256) ∷ (cell.ci % 256)
          ∷ (slots / 16777216) ∷ (slots / 65536 % 256) ∷ (slots / 256 % 256) ∷ (slots % 256) ∷ [];
      joined = refl;
      eight = refl;
      few = subst (λ n. n ≤ max_slots) (sym says) few;
      slots = subst (λ n. AreSlots n blocks) (sym says) are;
      cell_is = rw (pair_back cell.lac, pair_back cell.ci) refl;
      slots_are = sym says;
    }
