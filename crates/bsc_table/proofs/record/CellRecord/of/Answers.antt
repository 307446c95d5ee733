use Rattle.bsc_table.proofs.History.Promises.{legal_histories_are_served, legal_histories_are_bounded}
use Rattle.bsc_table.proofs.record.CellRecord.of.Goals as goal

pub returns-clause-served : goal.returns-clause-served
returns-clause-served c = legal_histories_are_served _ c.requires

pub returns-clause-bounded : goal.returns-clause-bounded
returns-clause-bounded c = legal_histories_are_bounded _ c.requires
