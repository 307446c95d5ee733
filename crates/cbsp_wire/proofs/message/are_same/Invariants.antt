use Rattle.std.proofs.Common.{◌≡◌, length}
use Rattle.cbsp_wire.specs.Same.{same_contents}
use Rattle.cbsp_wire.proofs.message.are_same.Given as goal

abbrev pub invariant-contents : goal.invariant-contents
invariant-contents l = same_contents l.left l.other_left ≡ same_contents l.one l.other

abbrev pub decreases-contents : goal.decreases-contents
decreases-contents l = length l.left
