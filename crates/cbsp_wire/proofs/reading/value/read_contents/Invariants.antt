use Rattle.std.proofs.Common.{◌≡◌, ◌++◌, length}
use Rattle.cbsp_wire.specs.Walk.{walk_of}
use Rattle.cbsp_wire.specs.Value.{contents_of}
use Rattle.cbsp_wire.proofs.reading.value.read_contents.Given as goal

abbrev pub invariant-walk : goal.invariant-walk
invariant-walk l =
    l.contents.items ++ contents_of (walk_of l.message_type l.left).elements ≡ contents_of
    (walk_of l.message_type l.octets).elements

abbrev pub decreases-walk : goal.decreases-walk
decreases-walk l = length l.left
