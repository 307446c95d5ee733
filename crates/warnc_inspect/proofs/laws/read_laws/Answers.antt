use Rattle.warnc_inspect.proofs.ShortLaws.{one_table}
use Rattle.warnc_inspect.proofs.laws.read_laws.Goals as goal

pub returns : goal.returns
returns c =
    one_table c.recording_laws.ensures.one c.recording_laws.ensures.read c.tape_laws.ensures.tapes
