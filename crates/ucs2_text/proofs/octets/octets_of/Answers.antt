-- The loop wrote both octets of each unit.
use Rattle.std.proofs.Common.{arith}
use Rattle.ucs2_text.proofs.Places.{octets-by_place}
use Rattle.ucs2_text.proofs.octets.octets_of.Goals as goal

pub returns : goal.returns
returns c =
    octets-by_place c.args.units.now c.loop-place.octets c.told-units c.loop-place.invariant.0
    (λ k below. c.loop-place.invariant.1 k (omega arith))
