-- By the laws of recordings.
use Rattle.warnc_inspect.proofs.WholeTapes.{whole_tapes_hold, whole_tapes_show}
use Rattle.warnc_inspect.proofs.laws.whole_laws.Goals as goal

pub returns-clause-hold : goal.returns-clause-hold
returns-clause-hold c = whole_tapes_hold c.recording_laws.ensures.made c.recording_laws.ensures.one

pub returns-clause-show : goal.returns-clause-show
returns-clause-show c =
    whole_tapes_show c.recording_laws.ensures.made c.recording_laws.ensures.one c.recording_laws.ensures.read
