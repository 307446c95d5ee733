use Rattle.septets.proofs.Groups.{stands}
use Rattle.septets.proofs.spread.Goals as goal

pub returns : goal.returns
returns c = stands c.args.septets
