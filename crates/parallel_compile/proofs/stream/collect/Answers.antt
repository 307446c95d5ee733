use Rattle.parallel_compile.proofs.Came.{more_came}
use Rattle.parallel_compile.proofs.stream.collect.Goals as goal

pub loop-preserved : goal.loop-preserved
loop-preserved g c =
    let came = c.loop.invariant.came in
    record {
      stays = c.put_all.ensures.stays;
      came = (_, more_came c.args.desk.now came.0 _ _ _ _ came.1 c.put_all.ensures.come);
    }
