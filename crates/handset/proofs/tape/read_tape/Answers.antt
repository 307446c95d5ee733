use Rattle.std.proofs.Common.{Option, Some, None, List, [], ◌∷◌, ◌++◌, ℕ, ◌≡◌, ap, subst, refl, IfSome, arith}
use Rattle.std.specs.Prelude.{MatchBool, IfNone, ◌<◌, length}
use Rattle.std.specs.Io.KnownBytes.{IsAtEnd}
use Rattle.device_ends.specs.Source.{reader_of}
use Rattle.handset.specs.Tape.{reading_of, IsShortTape}
use Rattle.handset.specs.TapeSteps.{ReadsCount, ReadsTape}
use Rattle.std.proofs.lemmas.Result.{err_from_is_err_and}
use Rattle.handset.proofs.TapeLaws.{tape_goes_on, ReadsTapes, ReadsTapes-none, ReadsTapes-more}
use Rattle.handset.proofs.TapeExtents.{stops-failed, stops-refused, stops-at-next, stops-at-more, stops-at-last}
use Rattle.handset.proofs.tape.read_tape.Goals as goal

pub returns-in-Ok-false-clause-fault : goal.returns-in-Ok-false-clause-fault
returns-in-Ok-false-clause-fault g c =
    let remaining = g.R.Read.remaining in
    let old : Option (List ℕ) = remaining (reader_of c.args.source.now) in
    let new : Option (List ℕ) = remaining (reader_of c.next_tape.new.source) in
    let reads : ReadsTape old new (reading_of c.in-Ok-Some.reading) =
    subst (λ next. IfSome next (λ r. ReadsTape old new (reading_of r))) c.in-Ok-Some.field-0-is
    c.in-Ok-Some.ensures.tape in
    let more : IfSome new (λ left. 0 < length left) =
    subst (λ b. MatchBool b (IsAtEnd new) (IfSome new (λ left. 0 < length left))) c.in-Ok-false.field-0-test
    c.in-Ok-false.ensures.end in
    tape_goes_on old new (reading_of c.in-Ok-Some.reading) reads more

pub returns-then-failed-clause-extent : goal.returns-then-failed-clause-extent
returns-then-failed-clause-extent g c = stops-failed 1 _

pub returns-in_err-piece-clause-extent : goal.returns-in_err-piece-clause-extent
returns-in_err-piece-clause-extent g c =
    let failed = err_from_is_err_and c.from_residual.result c.from_residual.ensures.1 in
    rw (failed.1, failed.2) (stops-refused 1 _ (omega arith))

pub returns-in-Err-clause-extent : goal.returns-in-Err-clause-extent
returns-in-Err-clause-extent g c =
    stops-at-next 1 _ _ _ [] _ (ReadsTapes-none _) (omega arith) c.in-Err.ensures.extent

pub returns-in-Ok-false-clause-extent : goal.returns-in-Ok-false-clause-extent
returns-in-Ok-false-clause-extent g c =
    let remaining = g.R.Read.remaining in
    let old : Option (List ℕ) = remaining (reader_of c.args.source.now) in
    let mid : Option (List ℕ) = remaining (reader_of c.next_tape.new.source) in
    let new : Option (List ℕ) = remaining (reader_of c.is_at_end.new.source) in
    let reads : ReadsTape old mid (reading_of c.in-Ok-Some.reading) =
    subst (λ next. IfSome next (λ r. ReadsTape old mid (reading_of r))) c.in-Ok-Some.field-0-is
    c.in-Ok-Some.ensures.tape in
    let one : ReadsTapes old mid ([] ++ reading_of c.in-Ok-Some.reading ∷ []) =
    ReadsTapes-more old old mid [] (reading_of c.in-Ok-Some.reading) (ReadsTapes-none old) reads in
    let more : ReadsCount mid new 1 =
    subst (λ b. MatchBool b (IsAtEnd new) (ReadsCount mid new 1)) c.in-Ok-false.field-0-test
    c.in-Ok-false.ensures.read in
    stops-at-more 1 old mid new ([] ++ reading_of c.in-Ok-Some.reading ∷ []) one refl more

pub returns-clause-extent : goal.returns-clause-extent
returns-clause-extent g c =
    let remaining = g.R.Read.remaining in
    let old : Option (List ℕ) = remaining (reader_of c.args.source.now) in
    let mid : Option (List ℕ) = remaining (reader_of c.next_tape.new.source) in
    let new : Option (List ℕ) = remaining (reader_of c.is_at_end.new.source) in
    let reads : ReadsTape old mid (reading_of c.in-Ok-Some.reading) =
    subst (λ next. IfSome next (λ r. ReadsTape old mid (reading_of r))) c.in-Ok-Some.field-0-is
    c.in-Ok-Some.ensures.tape in
    let one : ReadsTapes old mid ([] ++ reading_of c.in-Ok-Some.reading ∷ []) =
    ReadsTapes-more old old mid [] (reading_of c.in-Ok-Some.reading) (ReadsTapes-none old) reads in
    stops-at-last 1 old mid new ([] ++ reading_of c.in-Ok-Some.reading ∷ []) one refl c.in-Err-is_at_end.ensures.stopped

-- an input that is at its end is no whole tape
short_at_end : (left : Option (List ℕ)) → IsAtEnd left → IfSome left IsShortTape
short_at_end None end = tt
short_at_end (Some input) end = λ eight. let empty : length input ≡ 0 = ap length end in absurd (omega arith)

pub returns-in-Ok-None-clause-fault : goal.returns-in-Ok-None-clause-fault
returns-in-Ok-None-clause-fault g c =
    let old : Option (List ℕ) = g.R.Read.remaining (reader_of c.args.source.now) in
    short_at_end old
    (subst (λ next. IfNone next (IsAtEnd old)) c.in-Ok-None.field-0-is c.in-Ok-None.ensures.end)
