use Rattle.std.proofs.Common.{◌≡◌, arith}
use Rattle.septets.specs.Packing.{unpacked}
use Rattle.septets.proofs.PackingLaws.{unpacked-from_septets, unpacking_is_bitwise}
use Rattle.septets.proofs.unpack.Goals as goal
use Rattle.septets.proofs.unpack.Goals.{After-loop-place}

septets_read : (c : After-loop-place) → c.loop-place.septets ≡ unpacked c.args.octets.now
septets_read c =
    let loop = c.loop-place in
    unpacked-from_septets c.args.octets.now loop.septets loop.invariant.size
    (λ place within. loop.invariant.read place (omega arith))

pub returns-clause-value : goal.returns-clause-value
returns-clause-value c = septets_read (goal.at.returns-clause-value c).After-loop-place

pub returns-clause-bits : goal.returns-clause-bits
returns-clause-bits c = rw (septets_read (goal.at.returns-clause-bits c).After-loop-place)
    (unpacking_is_bitwise c.args.octets.now)
