-- The unit at a place of the page is the octets at twice that place.
use Rattle.std.proofs.Common.{rules}
use Rattle.ucs2_text.proofs.Places.{unit-at}
use Rattle.ucs2_text.proofs.octets.unit_at.Goals as goal

pub returns : goal.returns
returns c = rw (unit-at c.args.octets.now c.args.place c.requires) (search rules)
