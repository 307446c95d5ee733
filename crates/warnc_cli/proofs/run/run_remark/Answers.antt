use Rattle.std.proofs.Common.{◌∙◌, subst, sym}
use Rattle.std.proofs.KnownBytes.{Keeps-refl}
use Rattle.std.specs.Io.KnownBytes.{Keeps}
use Rattle.device_ends.specs.Sink.{writer_of}
use Rattle.warnc_cli.proofs.RemarkedRuns.{nothing_remarked, refused_remark, remark_between, some_remarks}
use Rattle.warnc_cli.proofs.RemarkedRuns.{unseen_or_remarked}
use Rattle.warnc_cli.proofs.run.run_remark.Goals as goal

pub returns-in-Ok-clause-wrote : goal.returns-in-Ok-clause-wrote
returns-in-Ok-clause-wrote g c = λ is always. some_remarks _ _ _ _ _ _ _ c.in-Ok.ensures.ok

pub returns-in-Err-clause-refused : goal.returns-in-Err-clause-refused
returns-in-Err-clause-refused g c =
    λ is. refused_remark _ _ _ _ _ _ _ c.in-Err.fault c.in-Err.ensures.err (sym c.failed.ensures ∙ is)

pub returns-in-Err-clause-told : goal.returns-in-Err-clause-told
returns-in-Err-clause-told g c =
    let held = g.W.Write.contents in (
      λ is. unseen_or_remarked _ c.args.what c.args.slots c.args.start c.args.strict _ _ _ c.in-Err.fault
          c.in-Err.ensures.err
          (λ no. subst (λ sink. Keeps (held (writer_of c.args.sink.now)) (held (writer_of sink)))
          (sym (c.in-Err.ensures.nothing_written no)) (Keeps-refl _))
          (sym c.failed.ensures ∙ is),
      λ is. nothing_remarked _ c.in-Err.fault
          (λ no. subst (λ sink. Keeps (held (writer_of c.args.sink.now)) (held (writer_of sink)))
          (sym (c.in-Err.ensures.nothing_written no)) (Keeps-refl _))
          (sym c.failed.ensures ∙ is),
    )

pub returns-in-Err-clause-ends : goal.returns-in-Err-clause-ends
returns-in-Err-clause-ends g c =
    remark_between c.args.what c.args.slots c.args.start c.args.strict c.in-Err.fault c.failed.result
    g.W.Write.contents _ _ _
    c.failed.ensures (record {
      read_failed = c.in-Err.ensures.read_failed;
      write_failed = c.in-Err.ensures.write_failed;
      told = c.in-Err.ensures.told_written;
      untouched = c.in-Err.ensures.nothing_written;
    })
