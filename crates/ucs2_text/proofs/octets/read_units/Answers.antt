-- The loop read each unit at its place.
use Rattle.std.proofs.Common.{arith}
use Rattle.ucs2_text.proofs.Places.{units-by_place}
use Rattle.ucs2_text.proofs.octets.read_units.Goals as goal

pub returns : goal.returns
returns c =
    units-by_place c.args.octets.now c.loop-place.units c.requires.whole_octets c.loop-place.invariant.0
    (λ k below. c.loop-place.invariant.1 k (omega arith))
