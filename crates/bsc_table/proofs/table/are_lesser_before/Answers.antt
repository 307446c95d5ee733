use Rattle.std.proofs.Common.{◌-◌, arith}
use Rattle.bsc_table.proofs.Cell.TableByPair.{less_up_to}
use Rattle.bsc_table.proofs.table.are_lesser_before.Goals as goal

pub returns-else-at-eq0 : goal.returns-else-at-eq0
returns-else-at-eq0 c = λ says k d before.
    less_up_to c.args.pairs.now (c.args.id, c.args.serial) c.requires.rising (c.args.at - 1) _
    (omega (arith, c.requires.within, c.if-at-eq0.false)) (c.is_before.ensures.0 says) k d (omega (arith, before))
