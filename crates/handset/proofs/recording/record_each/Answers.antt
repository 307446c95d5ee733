use Rattle.std.proofs.Common.{rules, arith, ap, ◌∙◌, ◌+◌, ◌++◌, ◌∷◌, ◌≤◌, ◌≡◌, [], Err, None, Option, List, ℕ, subst}
use Rattle.std.proofs.Common.{sym, append_assoc, map, IfSome}
use Rattle.std.specs.Prelude.{IfNone}
use Rattle.std.proofs.lemmas.List.{length-append}
use Rattle.std.proofs.lemmas.Result.{err_from_is_err_and}
use Rattle.device_ends.specs.Source.{reader_of}
use Rattle.handset.specs.Recording.{TapeRecording, reading_of_recording, GivesNoMore, ReadsRecording}
use Rattle.handset.proofs.NextRecording.{as_many}
use Rattle.handset.proofs.Recordings.{one_more_read, tape_read, tapes_read}
use Rattle.handset.proofs.TapeExtents.{stops-at-reading}
use Rattle.handset.proofs.recording.record_each.Invariants.{AreRecordedSoFar}
use Rattle.handset.proofs.recording.record_each.Goals as goal

-- one more
taken_more : {G T : Type 0} (HasTaken : G → T → List TapeRecording → Type 0) (first mid last : Option (List ℕ))
    (old now new : T) (count more : ℕ) (r : TapeRecording)
    → more ≡ count + 1
    → AreRecordedSoFar HasTaken first mid old now count
    → ReadsRecording mid last r
    → ((given : G) (before : List TapeRecording) → HasTaken given now before → HasTaken given new (before ++ r ∷ []))
    → AreRecordedSoFar HasTaken first last old new more
taken_more HasTaken first mid last old now new count more r next sofar reads takes = record {
  recordings = sofar.recordings ++ r ∷ [];
  read = one_more_read first mid last sofar.recordings r sofar.read reads;
  many = length-append sofar.recordings (r ∷ []) ∙ ap (λ n. n + 1) sofar.many ∙ sym next;
  taken = λ given before has.
      subst (HasTaken given new) (append_assoc before sofar.recordings (r ∷ []))
      (takes given (before ++ sofar.recordings) (sofar.taken given before has));
}

pub returns-in_err-recording-clause-err : goal.returns-in_err-recording-clause-err
returns-in_err-recording-clause-err g c =
    let sofar = c.loop-recording.invariant.tapes in
    let is : c.from_residual.result ≡ Err c.in_err-recording.field-0.0 = search (rules, c.from_residual.ensures) in
    rw is (c.in_err-recording.ensures.err _ sofar.recordings sofar.read sofar.many)

pub returns-in_err-recording-clause-extent : goal.returns-in_err-recording-clause-extent
returns-in_err-recording-clause-extent g c =
    let sofar = c.loop-recording.invariant.tapes in
    let is : c.from_residual.result ≡ Err c.in_err-recording.field-0.0 = search (rules, c.from_residual.ensures) in
    rw is (c.in_err-recording.ensures.extent _ sofar.recordings sofar.read sofar.many)

pub loop-recording-smaller : goal.loop-recording-smaller
loop-recording-smaller g c =
    let count : c.next.new.self ≡ c.loop-recording.recorder + 1 =
    subst (λ next. IfSome next (λ _. c.next.new.self ≡ c.loop-recording.recorder + 1)) c.in-Some.is
    c.in_ok-recording.ensures.count in
    let few : c.next.new.self ≤ 64 =
    subst (λ next. IfSome next (λ _. c.next.new.self ≤ 64)) c.in-Some.is c.in_ok-recording.ensures.few in
    omega (arith, count, few)

pub loop-recording-preserved : goal.loop-recording-preserved
loop-recording-preserved g c =
    let remaining = g.R.Read.remaining in
    let mid : Option (List ℕ) = remaining (reader_of c.loop-recording.source) in
    let new : Option (List ℕ) = remaining (reader_of c.next.new.source) in
    let reads : ReadsRecording mid new c.in-Some.recording =
    subst (λ next. IfSome next (λ r. ReadsRecording mid new r)) c.in-Some.is c.in_ok-recording.ensures.tape in
    let count : c.next.new.self ≡ c.loop-recording.recorder + 1 =
    subst (λ next. IfSome next (λ _. c.next.new.self ≡ c.loop-recording.recorder + 1)) c.in-Some.is
    c.in_ok-recording.ensures.count in
    record {
      tapes =
          taken_more g.T.TakesRecordings.HasTaken _ mid new c.args.taker.now c.loop-recording.taker c.take.new.self
          c.loop-recording.recorder c.next.new.self c.in-Some.recording count c.loop-recording.invariant.tapes reads
          c.in_ok-take.ensures;
      stays = search rules;
    }

pub returns-in_err-take-clause-extent : goal.returns-in_err-take-clause-extent
returns-in_err-take-clause-extent g c =
    let remaining = g.R.Read.remaining in
    let mid : Option (List ℕ) = remaining (reader_of c.loop-recording.source) in
    let new : Option (List ℕ) = remaining (reader_of c.next.new.source) in
    let reads : ReadsRecording mid new c.in-Some.recording =
    subst (λ next. IfSome next (λ r. ReadsRecording mid new r)) c.in-Some.is c.in_ok-recording.ensures.tape in
    let count : c.next.new.self ≡ c.loop-recording.recorder + 1 =
    subst (λ next. IfSome next (λ _. c.next.new.self ≡ c.loop-recording.recorder + 1)) c.in-Some.is
    c.in_ok-recording.ensures.count in
    let few : c.next.new.self ≤ 64 =
    subst (λ next. IfSome next (λ _. c.next.new.self ≤ 64)) c.in-Some.is c.in_ok-recording.ensures.few in
    let failed = err_from_is_err_and c.from_residual-in_err-take.result c.from_residual-in_err-take.ensures.1 in
    let sofar = c.loop-recording.invariant.tapes in
    let many = as_many sofar.recordings _ sofar.many in
    rw (failed.1, failed.2)
    (stops-at-reading 64 _ mid new (map reading_of_recording sofar.recordings)
    (reading_of_recording c.in-Some.recording) (tapes_read _ _ sofar.recordings sofar.read)
    (omega (arith, many, count, few)) (tape_read mid new c.in-Some.recording reads))

pub returns-clause-ok : goal.returns-clause-ok
returns-clause-ok g c =
    let left : Option (List ℕ) = g.R.Read.remaining (reader_of c.loop-recording.source) in
    let none : c.in_ok-recording.field-0 ≡ None = search rules in
    let last : GivesNoMore c.loop-recording.recorder left =
    subst (λ next. IfNone next (GivesNoMore c.loop-recording.recorder left)) none c.in_ok-recording.ensures.end in
    let sofar = c.loop-recording.invariant.tapes in
    let all = last _ sofar.recordings sofar.read sofar.many in
    record { recordings = sofar.recordings; of_input = all.0; of_some = all.1; taken = sofar.taken }
