-- What tapes hold, one after another, and that a handset reads them so.
use Rattle.std.proofs.Common.{◌≡◌, ℕ, ◌*◌, ◌≤◌, List, [], ◌∷◌, ◌++◌, Option, IfSome, length, map}
use Rattle.std.proofs.Common.{refl, sym, ap, ◌∙◌, subst, arith, append_assoc, append-nil}
use Rattle.std.specs.Io.KnownBytes.{Consumes, IsAtEnd}
use Rattle.std.specs.Simd.{first_chunks}
use Rattle.std.proofs.KnownBytes.{Consumes-trans, Consumes-nil}
use Rattle.handset.specs.Recording.{TapeRecording, reading_of_recording, HoldsRecording, AreJoinedRecordings}
use Rattle.handset.specs.Recording.{AreRecordings, ReadsRecording, ReadsRecordings}
use Rattle.handset.specs.Tape.{AreJoined, IsTape, cell_in, max_tapes, slots_in}
use Rattle.handset.specs.TapeSteps.{ReadsHeader, ReadsTape}
use Rattle.handset.proofs.TapeLaws.{ReadsTapes, at_end, chunks_each, chunks_joined, chunks_long}

-- a header and the octets of its blocks are a tape
pub recording_from : (a b c : Option (List ℕ)) (header octets : List ℕ) → ReadsHeader a b header
    → Consumes b c octets
    → length octets ≡ 92 * slots_in header
    → ReadsRecording a c (record {
      cell = cell_in header;
      slots = slots_in header;
      blocks = first_chunks 23 (4 * slots_in header) octets;
    })
recording_from a b c header octets read consumed long =
    let count = 4 * slots_in header in
    let whole : length octets ≡ 23 * count = omega (arith, long) in record {
      octets = header ++ octets;
      consumed = Consumes-trans a b c header octets read.consumed consumed;
      holds = record {
        header = header;
        joined = ap (λ (o : List ℕ). header ++ o) (sym (chunks_joined count octets whole));
        eight = read.eight;
        few = read.few;
        slots = record { four = chunks_long count octets; each = chunks_each count octets whole };
        cell_is = refl;
        slots_are = refl;
      };
    }

-- a handset reads what a tape holds
pub tape_of : (octets : List ℕ) (r : TapeRecording) → HoldsRecording octets r → IsTape octets (reading_of_recording r)
tape_of octets r holds = record {
  header = holds.header;
  blocks = r.blocks;
  joined = holds.joined;
  eight = holds.eight;
  few = holds.few;
  slots = holds.slots;
  reading_is = rw (holds.cell_is, holds.slots_are) refl;
}

-- a recording that is read is a tape that is read
pub tape_read : (a b : Option (List ℕ)) (r : TapeRecording) → ReadsRecording a b r
    → ReadsTape a b (reading_of_recording r)
tape_read a b r reads = record {
  octets = reads.octets;
  consumed = reads.consumed;
  tape = tape_of reads.octets r reads.holds;
}

-- recordings that are joined are tapes that are joined
pub tapes_joined : (octets : List ℕ) (recordings : List TapeRecording) → AreJoinedRecordings octets recordings
    → AreJoined octets (map reading_of_recording recordings)
tapes_joined octets [] joined = joined
tapes_joined octets (r ∷ rest) joined =
    (joined.0, joined.1, joined.2, tape_of joined.0 r joined.3, tapes_joined joined.1 rest joined.4)

-- recordings that are read are tapes that are read
pub tapes_read : (a b : Option (List ℕ)) (recordings : List TapeRecording) → ReadsRecordings a b recordings
    → ReadsTapes a b (map reading_of_recording recordings)
tapes_read a b recordings reads = record {
  octets = reads.octets;
  consumed = reads.consumed;
  joined = tapes_joined reads.octets recordings reads.joined;
}

-- one more
joined_more : (octets tape : List ℕ) (recordings : List TapeRecording) (r : TapeRecording)
    → AreJoinedRecordings octets recordings
    → HoldsRecording tape r
    → AreJoinedRecordings (octets ++ tape) (recordings ++ r ∷ [])
joined_more octets tape [] r joined is =
    (tape, [], ap (λ (o : List ℕ). o ++ tape) joined ∙ sym (append-nil tape), is, refl)
joined_more octets tape (first ∷ recordings) r joined is = (
  joined.0,
  joined.1 ++ tape,
  ap (λ (o : List ℕ). o ++ tape) joined.2 ∙ append_assoc joined.0 joined.1 tape,
  joined.3,
  joined_more joined.1 tape recordings r joined.4 is,
)

-- tapes after tapes
joined_both : (octets others : List ℕ) (recordings more : List TapeRecording) → AreJoinedRecordings octets recordings
    → AreJoinedRecordings others more
    → AreJoinedRecordings (octets ++ others) (recordings ++ more)
joined_both octets others [] more joined after =
    subst (λ (o : List ℕ). AreJoinedRecordings o more) (ap (λ (o : List ℕ). o ++ others) (sym joined)) after
joined_both octets others (r ∷ recordings) more joined after = (
  joined.0,
  joined.1 ++ others,
  ap (λ (o : List ℕ). o ++ others) joined.2 ∙ append_assoc joined.0 joined.1 others,
  joined.3,
  joined_both joined.1 others recordings more joined.4 after,
)

-- no recording is read of nothing
pub none_read : (old : Option (List ℕ)) → ReadsRecordings old old []
none_read old = record { octets = []; consumed = Consumes-nil old; joined = refl }

-- one recording more is read after those before it
pub one_more_read : (a b c : Option (List ℕ)) (recordings : List TapeRecording) (r : TapeRecording)
    → ReadsRecordings a b recordings
    → ReadsRecording b c r
    → ReadsRecordings a c (recordings ++ r ∷ [])
one_more_read a b c recordings r reads next = record {
  octets = reads.octets ++ next.octets;
  consumed = Consumes-trans a b c reads.octets next.octets reads.consumed next.consumed;
  joined = joined_more reads.octets next.octets recordings r reads.joined next.holds;
}

-- some recordings more are read after those before them
pub some_more_read : (a b c : Option (List ℕ)) (recordings more : List TapeRecording) → ReadsRecordings a b recordings
    → ReadsRecordings b c more
    → ReadsRecordings a c (recordings ++ more)
some_more_read a b c recordings more reads next = record {
  octets = reads.octets ++ next.octets;
  consumed = Consumes-trans a b c reads.octets next.octets reads.consumed next.consumed;
  joined = joined_both reads.octets next.octets recordings more reads.joined next.joined;
}

-- all of the input was read
pub all_read : (a b : Option (List ℕ)) (recordings : List TapeRecording) → ReadsRecordings a b recordings → IsAtEnd b
    → length recordings ≤ max_tapes
    → IfSome a (λ input. AreRecordings input recordings)
all_read a b recordings reads end few =
    at_end (λ (input : List ℕ). AreRecordings input recordings) a b reads.octets reads.consumed end
    (record { joined = reads.joined; few = few })
