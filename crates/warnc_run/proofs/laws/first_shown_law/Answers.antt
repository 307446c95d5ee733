use Rattle.warnc_run.proofs.FirstShown.{first_shown_is}
use Rattle.warnc_run.proofs.laws.first_shown_law.Goals as goal

pub returns : goal.returns
returns c =
    first_shown_is c.composition_laws.ensures.accepted_are_meant c.composition_laws.ensures.completed_is_whole_in_blocks
