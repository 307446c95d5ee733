use Rattle.std.proofs.Common.{[], take, arith}
use Rattle.std.proofs.lemmas.List.{take_more}
use Rattle.warnc_inspect.proofs.page.feed_all.Goals as goal

pub loop-block-preserved : goal.loop-block-preserved
loop-block-preserved c =
    let read = c.in_ok-feed.ensures.read (take c.loop-block.block-index c.args.blocks.now) c.loop-block.invariant in
    rw (take_more c.args.blocks.now c.loop-block.block-index [] (omega arith)) read
