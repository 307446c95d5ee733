use Rattle.std.proofs.Common.{◌≡◌, ◌≤◌, length}
use Rattle.cbsp_wire.specs.Element.{bodies_of}
use Rattle.cbsp_wire.specs.Walk.{walk_of}
use Rattle.cbsp_wire.proofs.reading.elements.find.Given as goal

abbrev pub invariant-walk : goal.invariant-walk
invariant-walk l = record {
  same : bodies_of l.number (walk_of l.message_type l.left).elements ≡ bodies_of l.number
      (walk_of l.message_type l.octets).elements;
  shorter : length l.left ≤ length l.octets;
}

abbrev pub decreases-walk : goal.decreases-walk
decreases-walk l = length l.left
