use Rattle.std.proofs.Common.{◌≡◌, length}
use Rattle.cbsp_link.specs.Element.{elements_in, first_body}
use Rattle.cbsp_link.proofs.elements.first.Given as goal

abbrev pub invariant-walk : goal.invariant-walk
invariant-walk l = first_body l.wanted (elements_in l.left) ≡ first_body l.wanted (elements_in l.octets)

abbrev pub decreases-walk : goal.decreases-walk
decreases-walk l = length l.left
