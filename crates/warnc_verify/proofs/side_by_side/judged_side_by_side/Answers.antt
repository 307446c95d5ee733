use Rattle.std.specs.Prelude.{⊤, MatchBool}
use Rattle.std.proofs.Common.{rules, ◌≡◌, ◌∙◌, ◌+◌, ◌++◌, ℕ, Err, List, Option, ap, length, subst, sym}
use Rattle.std.proofs.lemmas.List.{length-append}
use Rattle.device_ends.specs.Source.{reader_of}
use Rattle.handset.proofs.Recordings.{some_more_read}
use Rattle.warnc_verify.specs.VerifySteps.{held_by, AreTheLast, ReadsMore}
use Rattle.warnc_verify.specs.declared.side_by_side.Judging.{Judging}
use Rattle.warnc_verify.proofs.Taking.{batch-taken}
use Rattle.warnc_verify.proofs.side_by_side.judged_side_by_side.Goals as goal

pub returns-in_err-batch-clause-err : goal.returns-in_err-batch-clause-err
returns-in_err-batch-clause-err g c =
    let sofar = c.loop-findings.invariant.tapes in
    let is : c.from_residual-in_err-batch.result ≡ Err c.in_err-batch.field-0.0 =
    search (rules, c.from_residual-in_err-batch.ensures) in
    rw is (c.in_err-batch.ensures.err _ sofar.recordings sofar.read sofar.many)

pub returns-then-batch-clause-ok : goal.returns-then-batch-clause-ok
returns-then-batch-clause-ok g c =
    let left : Option (List ℕ) = g.R.Read.remaining (reader_of c.loop-findings.tapes) in
    let sofar = c.loop-findings.invariant.tapes in
    let batch : List Judging = c.in_ok-batch.batch.tapes.items in
    let ends : AreTheLast c.loop-findings.recorder left (held_by batch) =
    subst (λ b. MatchBool b (AreTheLast c.loop-findings.recorder left (held_by batch)) ⊤) c.if-batch.true
    c.in_ok-batch.ensures.last in
    let last = ends _ sofar.recordings sofar.read sofar.many in
    record {
      recordings = sofar.recordings ++ held_by batch;
      of_input = last.0;
      of_some = last.1;
      taken = batch-taken c.args.pages c.args.layout c.args.records.items sofar.recordings c.loop-findings.findings
          c.take_batch.new.findings batch c.judge_batch-judged.result.items c.judge_batch-judged.ensures.long
          c.judge_batch-judged.ensures.each c.in_ok-take_batch.ensures sofar.taken;
    }

pub loop-findings-preserved : goal.loop-findings-preserved
loop-findings-preserved g c =
    let remaining = g.R.Read.remaining in
    let first : Option (List ℕ) = remaining (reader_of c.args.tapes.now) in
    let mid : Option (List ℕ) = remaining (reader_of c.loop-findings.tapes) in
    let last : Option (List ℕ) = remaining (reader_of c.next_tapes.new.tapes) in
    let sofar = c.loop-findings.invariant.tapes in
    let batch : List Judging = c.in_ok-batch.batch.tapes.items in
    let more : ReadsMore c.loop-findings.recorder c.next_tapes.new.recorder mid last (held_by batch) =
    subst (λ b. MatchBool b ⊤ (ReadsMore c.loop-findings.recorder c.next_tapes.new.recorder mid last (held_by batch)))
    c.if-batch.false c.in_ok-batch.ensures.more in
    record {
      tapes = record {
        recordings = sofar.recordings ++ held_by batch;
        read = some_more_read first mid last sofar.recordings (held_by batch) sofar.read more.read;
        many = length-append sofar.recordings (held_by batch)
            ∙ ap (λ (n : ℕ). n + length (held_by batch)) sofar.many
            ∙ sym more.next_is;
        taken = batch-taken c.args.pages c.args.layout c.args.records.items sofar.recordings c.loop-findings.findings
            c.take_batch.new.findings batch c.judge_batch-judged.result.items c.judge_batch-judged.ensures.long
            c.judge_batch-judged.ensures.each c.in_ok-take_batch.ensures sofar.taken;
      };
      stays = search rules;
    }
