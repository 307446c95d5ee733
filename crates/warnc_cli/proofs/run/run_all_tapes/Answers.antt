use Rattle.std.proofs.Common.{refl, subst, sym, rules}
use Rattle.std.proofs.KnownBytes.{Keeps-refl}
use Rattle.std.specs.Io.KnownBytes.{Keeps}
use Rattle.device_ends.specs.Sink.{writer_of}
use Rattle.warnc_cli.proofs.AllTapes.{all_written, ends_with, refused_tapes}
use Rattle.warnc_cli.proofs.run.run_all_tapes.Goals as goal

pub returns-in-Ok : goal.returns-in-Ok
returns-in-Ok g c =
    all_written c.args.wanted _ g.B.Read.remaining g.R.Read.remaining g.W.Write.contents _ _ _ _ _ _ _ refl refl
    c.in-Ok.ensures.ok (search rules) c.in-Ok.ensures.capture_read c.in-Ok.ensures.written

pub returns-in-Err : goal.returns-in-Err
returns-in-Err g c =
    let held = g.W.Write.contents in
    ends_with c.args.wanted _ c.in-Err.fault c.failed_with_table.result g.B.Read.remaining g.R.Read.remaining held _ _ _
    _ _ _ c.failed_with_table.ensures
    (λ is. refused_tapes c.args.wanted _ _ _ _ _ _ c.in-Err.fault c.in-Err.ensures.err is)
    (record {
      table_failed = c.in-Err.ensures.table_failed;
      capture_failed = c.in-Err.ensures.capture_failed;
      capture_told = c.in-Err.ensures.capture_told;
      write_failed = c.in-Err.ensures.write_failed;
      untouched = c.in-Err.ensures.nothing_written;
    })
    (λ same. subst (λ sink. Keeps (held (writer_of c.args.sink.now)) (held (writer_of sink))) (sym same)
    (Keeps-refl _))
