use Rattle.std.proofs.Common.{◌≡◌, length}
use Rattle.cbsp_link.specs.Element.{fault_in}
use Rattle.cbsp_link.proofs.elements.fault.Given as goal

abbrev pub invariant-walk : goal.invariant-walk
invariant-walk l = fault_in l.left ≡ fault_in l.octets

abbrev pub decreases-walk : goal.decreases-walk
decreases-walk l = length l.left
