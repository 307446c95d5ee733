use Rattle.gsmtap.proofs.ThereAndBack.{nothing_there, there_and_back}
use Rattle.gsmtap.proofs.laws.capture_laws.Goals as goal

pub returns-clause-tape : goal.returns-clause-tape
returns-clause-tape c = there_and_back

pub returns-clause-none : goal.returns-clause-none
returns-clause-none c = nothing_there
