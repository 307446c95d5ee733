use Rattle.parallel_compile.proofs.Came.{more_came}
use Rattle.parallel_compile.proofs.player.put_cell.Goals as goal

pub loop-from-preserved : goal.loop-from-preserved
loop-from-preserved g c =
    let came = c.loop-from.invariant.came in
    record {
      stays = c.put_all.ensures.stays;
      came = (_, more_came c.args.desk.now came.0 _ _ _ _ came.1 c.put_all.ensures.come);
    }
