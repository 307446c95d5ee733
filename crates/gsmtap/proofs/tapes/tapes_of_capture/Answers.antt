use Rattle.std.proofs.Common.{List, subst, sym}
use Rattle.gsmtap.specs.TapesSteps.{AreLong, known_of_each}
use Rattle.gsmtap.specs.declared.track.Air.{Air}
use Rattle.gsmtap.proofs.TapesLaws.{long_file}
use Rattle.gsmtap.proofs.tapes.tapes_of_capture.Goals as goal

pub made-requires : goal.made-requires
made-requires c =
    subst (λ (airs : List Air). AreLong c.args.wanted.now (known_of_each airs)) (sym c.deref.ensures.value)
    (long_file c.args.wanted.now c.args.input.now (known_of_each c.in-Ok.airs.items) c.in-Ok.ensures.known)
