use Rattle.bsc_table.proofs.Cell.TableByPair.{gap_where_parted}
use Rattle.bsc_table.proofs.table.search.Goals as goal

pub returns-else-stands_at : goal.returns-else-stands_at
returns-else-stands_at c =
    rw c.number-serial.ensures at (gap_where_parted c.args.pairs.now _ c.requires _ c.gap_near-at.ensures
    (c.stands_at.ensures.apart c.if-stands_at.false))
