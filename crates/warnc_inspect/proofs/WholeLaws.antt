-- What is written of the tapes of an input, once all were taken.
use Rattle.std.proofs.Common.{Option, IfSome, OnOk, Result, Ok, Err, ◌≡◌, ◌∙◌, ℕ, List, is_ok, if◌then◌else◌}
use Rattle.std.proofs.lemmas.Option.{IfSome_then}
use Rattle.handset.specs.Recording.{AreRecorded, TapeRecording}
use Rattle.warnc_inspect.specs.WholeOutput.{IsWholeOutput, whole_tapes}

-- what octets are after more were appended, if that succeeded
pub appended : {E : Type 0} (r : Result (Unit {0}) E) (new more old other : List ℕ)
    → new ≡ (if is_ok r then more else old)
    → more ≡ other
    → OnOk r (new ≡ other)
appended (Ok done) new more old other is same = is ∙ same
appended (Err why) new more old other is same = tt

-- what is so of the whole tapes, where the input is known
pub whole_then : {T : Type 0} {HasTaken : Unit {0} → T → List TapeRecording → Type 0} {input : Option (List ℕ)}
    {old new : T} (P : List ℕ → Type 0) (taken : AreRecorded HasTaken input old new) (octets : List ℕ)
    → octets ≡ whole_tapes taken.recordings → P octets
    → IfSome input (λ read. (output : List ℕ) × IsWholeOutput read output × P output)
whole_then {input = input} P taken octets written holds =
    IfSome_then input {Q = λ read. (output : List ℕ) × IsWholeOutput read output × P output} taken.of_input
    (λ read tapes. (
      octets,
      record { recordings = taken.recordings; tapes = tapes; written = written },
      holds,
    ))
