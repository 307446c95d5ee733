use Rattle.gsmtap.proofs.TapesFaults.{fault_of_one, silent_is_one}
use Rattle.gsmtap.proofs.laws.tapes_laws.Goals as goal

pub returns-clause-fault : goal.returns-clause-fault
returns-clause-fault c = fault_of_one

pub returns-clause-silent : goal.returns-clause-silent
returns-clause-silent c = silent_is_one
