use Rattle.std.proofs.Common.{rules, arith, ap, ◌∙◌, ◌+◌, ◌++◌, ◌∷◌, [], Option, List, ℕ, subst, IfSome, append_assoc}
use Rattle.std.proofs.lemmas.List.{length-append}
use Rattle.std.proofs.lemmas.Result.{err_from_is_err_and}
use Rattle.device_ends.specs.Source.{reader_of}
use Rattle.handset.specs.Tape.{TapeReading, reading_of}
use Rattle.handset.specs.TapeSteps.{ReadsTape}
use Rattle.handset.proofs.TapeLaws.{ReadsTapes-more}
use Rattle.handset.proofs.TapeExtents.{stops-failed, stops-refused, stops-at-next, stops-at-reading}
use Rattle.handset.proofs.tape.read_each.Invariants.{AreTakenSoFar}
use Rattle.handset.proofs.tape.read_each.Goals as goal

-- one more reading
taken_more : {T : Type 0} (HasTaken : T → List TapeReading → Type 0) (first mid last : Option (List ℕ))
    (old now new : T) (count : ℕ)
    (reading : TapeReading) → AreTakenSoFar HasTaken first mid old now count → ReadsTape mid last reading
    → ((before : List TapeReading) → HasTaken now before → HasTaken new (before ++ reading ∷ []))
    → AreTakenSoFar HasTaken first last old new (count + 1)
taken_more HasTaken first mid last old now new count reading sofar reads takes = record {
  readings = sofar.readings ++ reading ∷ [];
  read = ReadsTapes-more first mid last sofar.readings reading sofar.read reads;
  many = length-append sofar.readings (reading ∷ []) ∙ ap (λ n. n + 1) sofar.many;
  taken = λ before has.
      subst (HasTaken new) (append_assoc before sofar.readings (reading ∷ []))
      (takes (before ++ sofar.readings) (sofar.taken before has));
}

pub returns-then-failed-clause-extent : goal.returns-then-failed-clause-extent
returns-then-failed-clause-extent g c = stops-failed 64 _

pub returns-in_err-piece-clause-extent : goal.returns-in_err-piece-clause-extent
returns-in_err-piece-clause-extent g c =
    let failed = err_from_is_err_and c.from_residual.result c.from_residual.ensures.1 in
    rw (failed.1, failed.2) (stops-refused 64 _ (omega arith))

pub returns-in_err-take-in-Ok-Some-clause-extent : goal.returns-in_err-take-in-Ok-Some-clause-extent
returns-in_err-take-in-Ok-Some-clause-extent g c =
    let remaining = g.R.Read.remaining in
    let mid : Option (List ℕ) = remaining (reader_of c.loop-count.source) in
    let new : Option (List ℕ) = remaining (reader_of c.next_tape.new.source) in
    let reads : ReadsTape mid new (reading_of c.in-Ok-Some.reading) =
    subst (λ next. IfSome next (λ r. ReadsTape mid new (reading_of r))) c.in-Ok-Some.field-0-is
    c.in-Ok-Some.ensures.tape in
    let failed =
    err_from_is_err_and c.from_residual-in_err-take-in-Ok-Some.result
    c.from_residual-in_err-take-in-Ok-Some.ensures.1 in
    let sofar = c.loop-count.invariant.tapes in
    rw (failed.1, failed.2)
    (stops-at-reading 64 _ mid new sofar.readings (reading_of c.in-Ok-Some.reading) sofar.read
    (omega (arith, sofar.many, c.loop-count-test.true)) reads)

pub returns-in-Err-clause-extent : goal.returns-in-Err-clause-extent
returns-in-Err-clause-extent g c =
    let sofar = c.loop-count.invariant.tapes in
    stops-at-next 64 _ _ _ sofar.readings c.in-Err.fault sofar.read
    (omega (arith, sofar.many, c.loop-count-test.true))
    c.in-Err.ensures.extent

pub loop-count-preserved : goal.loop-count-preserved
loop-count-preserved g c =
    let remaining = g.R.Read.remaining in
    let mid : Option (List ℕ) = remaining (reader_of c.loop-count.source) in
    let new : Option (List ℕ) = remaining (reader_of c.next_tape.new.source) in
    let reads : ReadsTape mid new (reading_of c.in-Ok-Some.reading) =
    subst (λ next. IfSome next (λ r. ReadsTape mid new (reading_of r))) c.in-Ok-Some.field-0-is
    c.in-Ok-Some.ensures.tape in
    record {
      few = omega (arith, c.loop-count-test.true);
      tapes =
          taken_more g.T.TakesReadings.HasTaken _ mid new c.args.taker.now c.loop-count.taker c.take.new.self
          c.loop-count.count
          (reading_of c.in-Ok-Some.reading) c.loop-count.invariant.tapes reads c.in_ok-take-in-Ok-Some.ensures;
      not_failed = search rules;
      piece = search rules;
    }
