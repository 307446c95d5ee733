use Rattle.std.proofs.Common.{[], ap}
use Rattle.handset.specs.Tape.{readings_of}
use Rattle.handset.proofs.tape.read_tapes.Goals as goal

pub returns-clause-ok : goal.returns-clause-ok
returns-clause-ok g c =
    let taken = c.in_ok-read_each.ensures.taken in
    rw (taken.taken [] (ap readings_of c.new-readings.ensures.items)) taken.of_input

pub returns-clause-tapes : goal.returns-clause-tapes
returns-clause-tapes g c =
    let taken = c.in_ok-read_each.ensures.taken in
    rw (taken.taken [] (ap readings_of c.new-readings.ensures.items)) taken.of_some
