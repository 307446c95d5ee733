use Rattle.std.proofs.Common.{sym, ◌∙◌, subst}
use Rattle.std.proofs.KnownBytes.{Keeps-refl}
use Rattle.std.specs.Io.KnownBytes.{Keeps}
use Rattle.device_ends.specs.Sink.{writer_of}
use Rattle.warnc_cli.proofs.NotVerified.{between, differences_written, refused_verification, some_written}
use Rattle.warnc_cli.proofs.NotVerified.{table_written, unseen_or_differs, unseen_verification}
use Rattle.warnc_cli.proofs.run.run_verify.Goals as goal

pub returns-in-Ok-clause-done : goal.returns-in-Ok-clause-done
returns-in-Ok-clause-done g c = λ done. table_written c.args.origin c.args.slots c.args.pages c.args.layout _ _ _
    c.in-Ok.ensures.ok

pub returns-in-Ok-clause-wrote : goal.returns-in-Ok-clause-wrote
returns-in-Ok-clause-wrote g c = λ done. some_written c.args.origin c.args.slots c.args.pages c.args.layout _ _ _
    c.in-Ok.ensures.ok

pub returns-in-Err-clause-refused : goal.returns-in-Err-clause-refused
returns-in-Err-clause-refused g c =
    λ is. refused_verification c.args.origin c.args.slots c.args.pages c.args.layout _ _ _ _ _ _ c.in-Err.fault
    c.in-Err.ensures.err
    (sym c.failed_with_book.ensures ∙ is)

pub returns-in-Err-clause-differences : goal.returns-in-Err-clause-differences
returns-in-Err-clause-differences g c =
    let held = g.W.Write.contents in
    λ is. unseen_or_differs _ _ _ c.in-Err.fault
    (λ one none. unseen_verification c.args.origin c.args.slots c.args.pages c.args.layout _ _ _ _ _ _ c.in-Err.fault
    c.in-Err.ensures.err one
    none)
    (λ no. subst (λ sink. Keeps (held (writer_of c.args.sink.now)) (held (writer_of sink)))
    (sym (c.in-Err.ensures.nothing_written no)) (Keeps-refl _))
    (λ differs. differences_written c.args.origin c.args.slots c.args.pages c.args.layout _ _ _ c.in-Err.fault
    c.in-Err.ensures.err
    differs)
    (sym c.failed_with_book.ensures ∙ is)

pub returns-in-Err-clause-ends : goal.returns-in-Err-clause-ends
returns-in-Err-clause-ends g c =
    let held = g.W.Write.contents in
    between c.args.origin c.args.slots c.args.pages c.args.layout _ _ _ c.in-Err.fault c.failed_with_book.result _ _ _ _
    _ _ _ _
    c.failed_with_book.ensures c.in-Err.ensures.err (record {
      book_failed = c.in-Err.ensures.book_failed;
      book_first = c.in-Err.ensures.book_first;
      tapes_failed = c.in-Err.ensures.tapes_failed;
      tapes_told = c.in-Err.ensures.tapes_told;
      tapes_judged = c.in-Err.ensures.tapes_judged;
      write_failed = c.in-Err.ensures.write_failed;
      written = c.in-Err.ensures.differences_written;
      untouched = c.in-Err.ensures.nothing_written;
    })
    (λ same. subst (λ sink. Keeps (held (writer_of c.args.sink.now)) (held (writer_of sink))) (sym same)
    (Keeps-refl _))
