use Rattle.warnc_run.proofs.GroupParts.{front_of_tapes}
use Rattle.warnc_run.proofs.parts.write_all_tapes.Goals as goal

pub returns-in-Err-clause-err : goal.returns-in-Err-clause-err
returns-in-Err-clause-err g c = front_of_tapes c.args.tapes.now c.in-Err.field-0.written _ _
    (c.in-Err.ensures.some c.requires.open) c.in-Err.ensures.err
