use Rattle.std.proofs.Common.{◌≡◌, ◌++◌, length}
use Rattle.cbsp_link.specs.Element.{elements_in}
use Rattle.cbsp_link.specs.Value.{pages_in}
use Rattle.cbsp_link.proofs.elements.contents.Given as goal

abbrev pub invariant-walk : goal.invariant-walk
invariant-walk l = l.contents.items ++ pages_in (elements_in l.left) ≡ pages_in (elements_in l.octets)

abbrev pub decreases-walk : goal.decreases-walk
decreases-walk l = length l.left
