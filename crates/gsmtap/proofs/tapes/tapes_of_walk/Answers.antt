use Rattle.std.proofs.Common.{List}
use Rattle.std.proofs.lemmas.Result.{IfErr-weaker, IfOk-weaker}
use Rattle.gsmtap.specs.TapesOfCapture.{AreTapesOfCapture, IsTapesFault}
use Rattle.gsmtap.specs.declared.tape.Wanted.{Wanted}
use Rattle.gsmtap.proofs.TapesTaken.{long_tapes, made_for}
use Rattle.gsmtap.proofs.tapes.tapes_of_walk.Goals as goal

pub made-requires : goal.made-requires
made-requires c =
    let some = c.requires in
    let all = c.in-Ok.ensures.taken some.given some.input some.is in
    long_tapes c.deref.result.now some.given all.packets c.deref-2.result.now c.in-Ok.tapes c.deref.ensures.value
    c.deref-2.ensures.value all.has

pub returns-clause-tapes : goal.returns-clause-tapes
returns-clause-tapes c =
    IfOk-weaker c.made.result _ _
    (λ output made wanted input is.
    made_for (λ (it : List Wanted) octets. AreTapesOfCapture it octets output.items) c.deref.result.now wanted
    c.deref-2.result.now c.in-Ok.tapes input c.deref.ensures.value c.deref-2.ensures.value made
    (c.in-Ok.ensures.taken wanted input is))
    c.made.ensures.tapes

pub returns-clause-fault : goal.returns-clause-fault
returns-clause-fault c =
    IfErr-weaker c.made.result _ _
    (λ fault made wanted input is.
    made_for (λ (it : List Wanted) octets. IsTapesFault it octets fault) c.deref.result.now wanted
    c.deref-2.result.now c.in-Ok.tapes input c.deref.ensures.value c.deref-2.ensures.value made
    (c.in-Ok.ensures.taken wanted input is))
    c.made.ensures.fault
