use Rattle.handset.proofs.TapeCases.{tape_has_kind, tapes_have_kind}
use Rattle.handset.proofs.TapeMade.{made_is_tape}
use Rattle.handset.proofs.TapeKinds.{tape_is_one_kind, tapes_are_one_kind}
use Rattle.handset.proofs.laws.tape_laws.Goals as goal

pub returns-clause-tape : goal.returns-clause-tape
returns-clause-tape c = tape_is_one_kind

pub returns-clause-tape_kinds : goal.returns-clause-tape_kinds
returns-clause-tape_kinds c = tape_has_kind

pub returns-clause-tapes : goal.returns-clause-tapes
returns-clause-tapes c = tapes_are_one_kind

pub returns-clause-tapes_kinds : goal.returns-clause-tapes_kinds
returns-clause-tapes_kinds c = tapes_have_kind

pub returns-clause-made : goal.returns-clause-made
returns-clause-made c = made_is_tape
