use Rattle.std.proofs.Common.{List, subst}
use Rattle.gsmtap.specs.TapesOfCapture.{AreTapesOfCapture, IsTapesFault}
use Rattle.gsmtap.specs.declared.tape.Wanted.{Wanted}
use Rattle.gsmtap.proofs.TapesFaults.{alone_fault, alone_tape}
use Rattle.gsmtap.proofs.tape.tape_of_capture.Goals as goal

pub returns-in-Ok-clause-tape : goal.returns-in-Ok-clause-tape
returns-in-Ok-clause-tape c =
    alone_tape c.args.wanted.now c.args.input.now c.in-Ok.output.items
    (subst (λ (wanted : List Wanted). AreTapesOfCapture wanted c.args.input.now c.in-Ok.output.items)
    c.from_ref.ensures.value c.in-Ok.ensures.tapes)

pub returns-in-Err-clause-fault : goal.returns-in-Err-clause-fault
returns-in-Err-clause-fault c =
    rw c.alone.ensures
    (alone_fault c.args.wanted.now c.args.input.now c.in-Err.fault
    (subst (λ (wanted : List Wanted). IsTapesFault wanted c.args.input.now c.in-Err.fault) c.from_ref.ensures.value
    c.in-Err.ensures.fault))
