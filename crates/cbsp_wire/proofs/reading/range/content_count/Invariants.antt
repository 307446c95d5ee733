use Rattle.std.proofs.Common.{◌≡◌, ◌≤◌, ◌+◌, length}
use Rattle.cbsp_wire.specs.Element.{bodies_of}
use Rattle.cbsp_wire.specs.Walk.{walk_of}
use Rattle.cbsp_wire.proofs.reading.range.content_count.Given as goal

abbrev pub invariant-walk : goal.invariant-walk
invariant-walk l = record {
  so_far : l.count + length (bodies_of 1 (walk_of l.message_type l.left).elements)
      ≡ length (bodies_of 1 (walk_of l.message_type l.octets).elements);
  fits : l.count + length l.left ≤ length l.octets;
}

abbrev pub decreases-walk : goal.decreases-walk
decreases-walk l = length l.left
