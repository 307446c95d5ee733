use Rattle.std.proofs.Common.{arith, subst}
use Rattle.gsmtap.specs.TapesOfCapture.{HasSilentTape, IsTapesFault}
use Rattle.gsmtap.specs.declared.tapes.TapesFault.{TapesFault}
use Rattle.gsmtap.proofs.TapesLaws.{long_file, long_many}
use Rattle.warnc_air.proofs.Silent.{found_within}
use Rattle.warnc_air.proofs.all.tapes_of.Goals as goal

pub overflow_add-result : goal.overflow_add-result
overflow_add-result c =
    let wanted = c.requires.0 in
    let input = c.requires.1 in
    let silent : HasSilentTape wanted input c.in-Err-NoBlock.place =
    subst (λ (fault : TapesFault). IsTapesFault wanted input fault) c.in-Err-NoBlock.field-0-is
    (c.in-Err-NoBlock.ensures.fault wanted input c.requires.2) in
    let there = found_within silent.known c.in-Err-NoBlock.place silent.first in
    let many = long_many wanted silent.known (long_file wanted input silent.known silent.file) in
    omega (arith, there, many, c.requires.4)
