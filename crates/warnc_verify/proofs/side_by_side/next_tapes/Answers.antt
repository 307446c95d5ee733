use Rattle.std.proofs.Common.{rules, arith, ℕ, ◌≡◌, ◌∙◌, ◌+◌, ◌++◌, ◌∷◌, ◌≤◌, [], Err, None, List, Option, ap, length}
use Rattle.std.proofs.Common.{subst, sym, IfSome}
use Rattle.std.specs.Prelude.{IfNone}
use Rattle.std.proofs.lemmas.List.{length-append, length-map, map-append}
use Rattle.device_ends.specs.Source.{reader_of}
use Rattle.handset.specs.Recording.{GivesNoMore, ReadsRecording, ReadsRecordings}
use Rattle.handset.proofs.NextRecording.{gives-fault-later}
use Rattle.handset.proofs.Recordings.{one_more_read}
use Rattle.warnc_verify.specs.VerifySteps.{held_by}
use Rattle.warnc_verify.specs.declared.side_by_side.Judging.{Judging}
use Rattle.warnc_verify.proofs.Taking.{ends-with}
use Rattle.warnc_verify.proofs.side_by_side.next_tapes.Goals as goal

pub returns-in_err-recording-clause-err : goal.returns-in_err-recording-clause-err
returns-in_err-recording-clause-err g c =
    let remaining = g.R.Read.remaining in
    let batch : List Judging = c.loop-alloc.batch.items in
    let sofar = c.loop-alloc.invariant in
    let is : c.from_residual.result ≡ Err c.in_err-recording.field-0.0 = search (rules, c.from_residual.ensures) in
    rw is
    (gives-fault-later c.args.recorder.now (length batch) (remaining (reader_of c.args.tapes.now))
    (remaining (reader_of c.loop-alloc.tapes)) (held_by batch) c.in_err-recording.field-0.0 sofar.read
    (length-map batch (λ (one : Judging). one.recording))
    (rw (sym sofar.count) c.in_err-recording.ensures.err))

pub returns-in_default-clause-last : goal.returns-in_default-clause-last
returns-in_default-clause-last g c =
    let remaining = g.R.Read.remaining in
    let batch : List Judging = c.loop-alloc.batch.items in
    let left : Option (List ℕ) = remaining (reader_of c.loop-alloc.tapes) in
    let sofar = c.loop-alloc.invariant in
    let none : c.in_ok-recording.field-0 ≡ None = search rules in
    let ends : GivesNoMore c.loop-alloc.recorder left =
    subst (λ next. IfNone next (GivesNoMore c.loop-alloc.recorder left)) none c.in_ok-recording.ensures.end in
    ends-with c.args.recorder.now (length batch) (remaining (reader_of c.args.tapes.now)) left (held_by batch)
    sofar.read (length-map batch (λ (one : Judging). one.recording))
    (rw (sym sofar.count) ends)

pub loop-alloc-preserved : goal.loop-alloc-preserved
loop-alloc-preserved g c =
    let remaining = g.R.Read.remaining in
    let first : Option (List ℕ) = remaining (reader_of c.args.tapes.now) in
    let mid : Option (List ℕ) = remaining (reader_of c.loop-alloc.tapes) in
    let new : Option (List ℕ) = remaining (reader_of c.next.new.source) in
    let batch : List Judging = c.loop-alloc.batch.items in
    let sofar = c.loop-alloc.invariant in
    let reads : ReadsRecording mid new c.in-Some.recording =
    subst (λ next. IfSome next (λ r. ReadsRecording mid new r)) c.in-Some.is c.in_ok-recording.ensures.tape in
    let count : c.next.new.self ≡ c.loop-alloc.recorder + 1 =
    subst (λ next. IfSome next (λ _. c.next.new.self ≡ c.loop-alloc.recorder + 1)) c.in-Some.is
    c.in_ok-recording.ensures.count in
    let few : c.next.new.self ≤ 64 =
    subst (λ next. IfSome next (λ _. c.next.new.self ≤ 64)) c.in-Some.is c.in_ok-recording.ensures.few in
    let pushed : held_by c.push.new.self.items ≡ held_by batch ++ c.in-Some.recording ∷ [] =
    ap held_by c.in-Ok.ensures.items ∙ map-append (λ (one : Judging). one.recording) batch _ in
    let long : length c.push.new.self.items ≡ length batch + 1 =
    ap length c.in-Ok.ensures.items ∙ length-append batch _ in
    record {
      read = subst (ReadsRecordings first new) (sym pushed)
          (one_more_read first mid new (held_by batch) c.in-Some.recording sofar.read reads);
      count = omega (arith, count, sofar.count, long);
      few = λ _. few;
      good = λ _. search rules;
      stays = search rules;
    }
