use Rattle.std.proofs.Common.{take}
use Rattle.handset.specs.Keeping.{HasRead}
use Rattle.warnc_inspect.proofs.page.feed_all.Given as goal

abbrev pub invariant-loop-block : goal.invariant-loop-block
invariant-loop-block l = HasRead l.handset (take l.block-index l.blocks)
