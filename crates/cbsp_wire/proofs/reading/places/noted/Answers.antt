use Rattle.std.proofs.Common.{subst}
use Rattle.cbsp_wire.specs.Places.{IsNoted}
use Rattle.cbsp_wire.specs.declared.reading.places.Place.{Place}
use Rattle.cbsp_wire.proofs.Places.{noted_first, noted_second}
use Rattle.cbsp_wire.proofs.reading.places.noted.Goals as goal

pub returns-in-Nowhere : goal.returns-in-Nowhere
returns-in-Nowhere c = λ body n first rest front h.
    noted_first body n c.args.from.now first rest front
    (subst (λ (place : Place). IsNoted body c.args.from.now n place) c.in-Nowhere.is h)

pub returns-in-Once : goal.returns-in-Once
returns-in-Once c = λ body n first rest front h.
    let known = subst (λ (place : Place). IsNoted body c.args.from.now n place) c.in-Once.is h in
    (known.0, noted_second body n c.args.from.now first rest known.1.0 front known.1.1)
