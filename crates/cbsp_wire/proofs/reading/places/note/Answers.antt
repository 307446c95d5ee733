use Rattle.std.proofs.Common.{arith}
use Rattle.cbsp_wire.proofs.Places.{noted_at}
use Rattle.cbsp_wire.proofs.reading.places.note.Goals as goal

pub returns : goal.returns
returns c = λ body first rest front h.
    rw (c.from-index.ensures)
    (noted_at body c.args.places.now c.args.number c.args.from.now first rest c.noted.result
    (omega (arith, c.told-places, c.requires)) front h (c.noted.ensures body c.args.number first rest front
    (rw (c.from-index.ensures) (h c.args.number))))
