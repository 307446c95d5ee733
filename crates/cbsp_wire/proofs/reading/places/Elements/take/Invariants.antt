use Rattle.std.proofs.Common.{◌≡◌, length}
use Rattle.cbsp_wire.specs.Places.{AreNoted}
use Rattle.cbsp_wire.specs.Walk.{walk_of}
use Rattle.cbsp_wire.proofs.reading.places.Elements.take.Given as goal

abbrev pub invariant-walk : goal.invariant-walk
invariant-walk l = record {
  stop : (walk_of l.message_type l.left).stop ≡ (walk_of l.message_type l.octets).stop;
  noted : AreNoted (record { message_type = l.message_type; octets = l.octets }) l.left l.places;
}

abbrev pub decreases-walk : goal.decreases-walk
decreases-walk l = length l.left
