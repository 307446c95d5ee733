use Rattle.std.proofs.Common.{◌≡◌, ◌-◌, ◌++◌, ℕ, List, Option, true, length}
use Rattle.device_ends.specs.Source.{reader_of, source_failed}
use Rattle.handset.specs.Recording.{ReadsRecordings, TapeRecording}
use Rattle.handset.proofs.recording.record_each.Given as goal

-- so many tapes were read, and what they hold was taken
pub record AreRecordedSoFar {G T : Type 0} (HasTaken : G → T → List TapeRecording → Type 0)
    (first now : Option (List ℕ)) (old new : T) (count : ℕ) : Type 0 where
  pub recordings : List TapeRecording
  pub read : ReadsRecordings first now recordings
  pub many : length recordings ≡ count
  pub taken : (given : G) (before : List TapeRecording) → HasTaken given old before
      → HasTaken given new (before ++ recordings)

abbrev pub invariant-loop-recording : goal.invariant-loop-recording
invariant-loop-recording g l = record {
  tapes : AreRecordedSoFar g.T.TakesRecordings.HasTaken (g.R.Read.remaining (reader_of l.initial.source))
      (g.R.Read.remaining (reader_of l.source)) l.initial.taker l.taker l.recorder;
  stays : source_failed l.initial.source ≡ true → l.source ≡ l.initial.source;
}

abbrev pub decreases-loop-recording : goal.decreases-loop-recording
decreases-loop-recording g l = 64 - l.recorder
