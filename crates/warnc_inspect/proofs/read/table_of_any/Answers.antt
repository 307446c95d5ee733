use Rattle.std.proofs.Common.{arith}
use Rattle.handset.proofs.TapeExtents.{stops-refused}
use Rattle.warnc_inspect.proofs.TableLaws.{of_any}
use Rattle.warnc_inspect.proofs.read.table_of_any.Goals as goal

pub returns-in_default-clause-extent : goal.returns-in_default-clause-extent
returns-in_default-clause-extent g c = stops-refused 64 _ (omega arith)

pub returns-clause-table : goal.returns-clause-table
returns-clause-table g c = of_any _ _ _ c.in_ok-record_each.ensures.ok c.in-Ok.ensures
