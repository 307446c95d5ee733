use Rattle.std.proofs.Common.{[], rules}
use Rattle.gsmtap.specs.TapesTaken.{HaveTaken}
use Rattle.gsmtap.proofs.TapesTaken.{tapes_come}
use Rattle.gsmtap.proofs.tapes.read_file.Goals as goal

pub take_all-requires : goal.take_all-requires
take_all-requires c = (_, c.args.input.now, c.in-Ok.ensures, c.in_ok-tapes.ensures, c.requires)

pub returns-in-Ok-take_all-clause-known : goal.returns-in-Ok-take_all-clause-known
returns-in-Ok-take_all-clause-known c =
    let have : HaveTaken c.args.wanted.now [] c.in_ok-tapes.tapes = search rules in
    tapes_come c.args.wanted.now c.args.input.now c.in-Ok-take_all.tapes
    (c.in-Ok-take_all.ensures.taken c.args.wanted.now c.args.input.now c.in-Ok.ensures have)

pub returns-in-Err-take_all-clause-fault : goal.returns-in-Err-take_all-clause-fault
returns-in-Err-take_all-clause-fault c =
    let have : HaveTaken c.args.wanted.now [] c.in_ok-tapes.tapes = search rules in
    c.in-Err-take_all.ensures.fault c.args.wanted.now c.args.input.now c.in-Ok.ensures have
