use Rattle.std.proofs.Common.{arith}
use Rattle.handset.proofs.TapeExtents.{stops-refused}
use Rattle.warnc_inspect.proofs.TableLaws.{of_four}
use Rattle.warnc_inspect.proofs.read.table_of_four.Goals as goal

pub returns-in_default-clause-extent : goal.returns-in_default-clause-extent
returns-in_default-clause-extent g c = stops-refused 64 _ (omega arith)

pub returns-clause-table : goal.returns-clause-table
returns-clause-table g c = of_four _ _ _ c.in_ok-read_each.ensures.taken c.in-Ok.ensures
