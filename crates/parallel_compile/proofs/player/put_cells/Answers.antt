use Rattle.parallel_compile.proofs.Came.{more_came}
use Rattle.parallel_compile.proofs.player.put_cells.Goals as goal

pub returns-in_err-put_cell-clause-came : goal.returns-in_err-put_cell-clause-came
returns-in_err-put_cell-clause-came g c =
    let before = c.loop-number.invariant.came in
    let came = c.put_cell.ensures.came in
    (_, more_came c.args.desk.now before.0 _ _ _ _ before.1 came.1)

pub loop-number-preserved : goal.loop-number-preserved
loop-number-preserved g c =
    let before = c.loop-number.invariant.came in
    let came = c.put_cell.ensures.came in
    record {
      stays = c.put_cell.ensures.stays;
      came = (_, more_came c.args.desk.now before.0 _ _ _ _ before.1 came.1);
    }
