use Rattle.std.proofs.Common.{◌∙◌, subst, sym}
use Rattle.std.proofs.KnownBytes.{Keeps-refl}
use Rattle.std.specs.Io.KnownBytes.{Keeps}
use Rattle.device_ends.specs.Sink.{writer_of}
use Rattle.warnc_cli.proofs.Faulty.{check_between, kept_without_memory, refused_check, some_names, unseen_or_written}
use Rattle.warnc_cli.proofs.run.run_check.Goals as goal

pub returns-in-Ok-clause-wrote : goal.returns-in-Ok-clause-wrote
returns-in-Ok-clause-wrote g c = λ is always. some_names c.args.what _ _ _ c.in-Ok.ensures.ok

pub returns-in-Err-clause-refused : goal.returns-in-Err-clause-refused
returns-in-Err-clause-refused g c =
    λ is. refused_check c.args.what _ _ _ c.in-Err.fault c.in-Err.ensures.err (sym c.failed.ensures ∙ is)

pub returns-in-Err-clause-told : goal.returns-in-Err-clause-told
returns-in-Err-clause-told g c =
    let held = g.W.Write.contents in (
      λ is. unseen_or_written c.args.what _ _ _ _ c.in-Err.fault c.in-Err.ensures.err
          (λ no. subst (λ sink. Keeps (held (writer_of c.args.sink.now)) (held (writer_of sink)))
          (sym (c.in-Err.ensures.nothing_written no)) (Keeps-refl _))
          (sym c.failed.ensures ∙ is),
      λ is. kept_without_memory _ c.in-Err.fault
          (λ no. subst (λ sink. Keeps (held (writer_of c.args.sink.now)) (held (writer_of sink)))
          (sym (c.in-Err.ensures.nothing_written no)) (Keeps-refl _))
          (sym c.failed.ensures ∙ is),
    )

pub returns-in-Err-clause-ends : goal.returns-in-Err-clause-ends
returns-in-Err-clause-ends g c =
    check_between c.args.what c.in-Err.fault c.failed.result g.W.Write.contents _ _ _ c.failed.ensures (record {
      read_failed = c.in-Err.ensures.read_failed;
      write_failed = c.in-Err.ensures.write_failed;
      told = c.in-Err.ensures.faults_written;
      untouched = c.in-Err.ensures.nothing_written;
    })
