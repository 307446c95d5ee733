use Rattle.std.proofs.Common.{◌==◌, ◌∙◌, sym}
use Rattle.plan.proofs.Places.{place_none, place_some}
use Rattle.plan.proofs.octets.place_of.Goals as goal

pub returns-in-Some-clause-value : goal.returns-in-Some-clause-value
returns-in-Some-clause-value c =
    place_some (λ other. other == c.args.octet) c.args.text.now c.in-Some.place
    (sym c.in-Some.is ∙ c.position_of.ensures)

pub returns-in-None-clause-value : goal.returns-in-None-clause-value
returns-in-None-clause-value c =
    place_none (λ other. other == c.args.octet) c.args.text.now
    (sym c.in-None.is ∙ c.position_of.ensures)
