use Rattle.std.proofs.Common.{◌≡◌, length}
use Rattle.std.specs.Prelude.{nat_le}
use Rattle.std.specs.List.{list_all}
use Rattle.cbsp_wire.specs.Walk.{walk_of}
use Rattle.cbsp_wire.specs.Value.{contents_of}
use Rattle.cbsp_wire.proofs.reading.range.used_is_valid.Given as goal

abbrev pub invariant-walk : goal.invariant-walk
invariant-walk l =
    list_all (λ c. nat_le c.used 82) (contents_of (walk_of l.message_type l.left).elements)
    ≡ list_all (λ c. nat_le c.used 82) (contents_of (walk_of l.message_type l.octets).elements)

abbrev pub decreases-walk : goal.decreases-walk
decreases-walk l = length l.left
