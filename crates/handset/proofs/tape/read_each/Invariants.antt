use Rattle.std.proofs.Common.{◌≡◌, ◌-◌, ◌≤◌, ◌++◌, ℕ, List, Option, false, length, vec_len}
use Rattle.device_ends.specs.Source.{reader_of, source_failed}
use Rattle.handset.specs.Tape.{TapeReading}
use Rattle.handset.proofs.TapeLaws.{ReadsTapes}
use Rattle.handset.proofs.tape.read_each.Given as goal

-- so many tapes were read, and their readings taken
pub record AreTakenSoFar {T : Type 0} (HasTaken : T → List TapeReading → Type 0) (first now : Option (List ℕ))
    (old new : T)
    (count : ℕ) : Type 0 where
  pub readings : List TapeReading
  pub read : ReadsTapes first now readings
  pub many : length readings ≡ count
  pub taken : (before : List TapeReading) → HasTaken old before → HasTaken new (before ++ readings)

abbrev pub invariant-loop-count : goal.invariant-loop-count
invariant-loop-count g l = record {
  few : l.count ≤ 64;
  tapes : AreTakenSoFar g.T.TakesReadings.HasTaken (g.R.Read.remaining (reader_of l.initial.source))
      (g.R.Read.remaining (reader_of l.source)) l.initial.taker l.taker l.count;
  not_failed : source_failed l.source ≡ false;
  piece : vec_len l.piece ≡ 65504;
}

abbrev pub decreases-loop-count : goal.decreases-loop-count
decreases-loop-count g l = 64 - l.count
