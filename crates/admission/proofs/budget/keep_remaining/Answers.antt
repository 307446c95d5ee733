use Rattle.std.proofs.Common.{arith, sym}
use Rattle.admission.proofs.Passing.{HasPassed-put, HasPassed-gone}
use Rattle.admission.proofs.budget.keep_remaining.Goals as goal
use Rattle.admission.proofs.budget.keep_remaining.Goals.{then-is_counted, else-is_counted}

pub loop-place-preserved : goal.loop-place-preserved
loop-place-preserved c =
    let loop = c.loop-place in
    elim c.if-is_counted.branch [
      | then-is_counted w ↦
          rw (w.table-is, w.kept-is, w.start.ensures)
          (HasPassed-put c.args.slot loop.kept loop.place loop.table c.args.table.now _ loop.invariant loop.auto.table
          (omega arith) (sym w.if-is_counted.ensures))
      | else-is_counted w ↦
          rw (w.table-is, w.kept-is)
          (HasPassed-gone c.args.slot loop.kept loop.place loop.table c.args.table.now _ loop.invariant loop.auto.table
          (omega arith) (sym w.if-is_counted.ensures))
    ]
