use Rattle.std.proofs.Common.{refl, subst, sym, rules}
use Rattle.std.proofs.KnownBytes.{Keeps-refl}
use Rattle.std.specs.Io.KnownBytes.{Keeps}
use Rattle.device_ends.specs.Sink.{writer_of}
use Rattle.warnc_cli.proofs.OrdersKept.{all_kept, differences_written, ends_with, refused_orders, unseen_orders}
use Rattle.warnc_cli.proofs.run.run_verify_orders.Goals as goal

pub returns-in-Ok : goal.returns-in-Ok
returns-in-Ok g c =
    all_kept c.args.cell c.args.terms _ g.B.Read.remaining g.R.Read.remaining g.W.Write.contents _ _ _ _ _ _ _ refl refl
    c.in-Ok.ensures.ok (search rules) c.in-Ok.ensures.tapes_read c.in-Ok.ensures.written

pub returns-in-Err : goal.returns-in-Err
returns-in-Err g c =
    let held = g.W.Write.contents in
    ends_with c.args.cell c.args.terms _ c.in-Err.fault c.failed_with_orders.result g.B.Read.remaining
    g.R.Read.remaining held _ _ _ _ _ _ c.failed_with_orders.ensures
    (record {
      refused = λ is. refused_orders c.args.cell c.args.terms _ _ _ _ _ _ c.in-Err.fault c.in-Err.ensures.err is;
      unseen = λ is none. unseen_orders c.args.cell c.args.terms _ _ _ _ _ _ c.in-Err.fault c.in-Err.ensures.err is
          none;
      differs = λ is. differences_written c.args.cell c.args.terms _ _ _ c.in-Err.fault c.in-Err.ensures.err is;
    })
    (record {
      orders_failed = c.in-Err.ensures.orders_failed;
      tapes_failed = c.in-Err.ensures.tapes_failed;
      tapes_told = c.in-Err.ensures.tapes_told;
      tapes_judged = c.in-Err.ensures.tapes_judged;
      write_failed = c.in-Err.ensures.write_failed;
      written = c.in-Err.ensures.differences_written;
      untouched = c.in-Err.ensures.nothing_written;
    })
    (λ same. subst (λ sink. Keeps (held (writer_of c.args.sink.now)) (held (writer_of sink))) (sym same)
    (Keeps-refl _))
