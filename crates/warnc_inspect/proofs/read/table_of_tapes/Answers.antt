use Rattle.handset.proofs.TapeExtents.{stops-failed}
use Rattle.warnc_inspect.proofs.read.table_of_tapes.Goals as goal

pub returns-then-failed-clause-extent : goal.returns-then-failed-clause-extent
returns-then-failed-clause-extent g c = stops-failed 64 _
