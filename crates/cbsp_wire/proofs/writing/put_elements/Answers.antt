use Rattle.std.proofs.Common.{ap, arith, length, length-append}
use Rattle.std.proofs.lemmas.List.Folds.{length-flat_map-take}
use Rattle.cbsp_wire.specs.WritingSteps.{field_octets}
use Rattle.cbsp_wire.proofs.writing.put_elements.Goals as goal

pub put_elements_with-requires-clause-room : goal.put_elements_with-requires-clause-room
put_elements_with-requires-clause-room c =
    let fits =
    length-flat_map-take
    (field_octets c.args.fields.now) c.args.numbers.now
    c.loop-number.number-index 0 c.loop-number-test.true in
    omega (arith, fits, simp length-append at (ap length c.loop-number.invariant.so_far))
