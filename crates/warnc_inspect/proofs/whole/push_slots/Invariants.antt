-- The slots so far are appended.
use Rattle.std.proofs.Common.{◌≡◌, ◌++◌, take}
use Rattle.std.specs.List.{flat_map}
use Rattle.handset.specs.Tape.{octets_of_blocks}
use Rattle.short_pages.specs.Slots.{completed_slot}
use Rattle.warnc_inspect.proofs.whole.push_slots.Given as goal

abbrev pub invariant-loop-slot : goal.invariant-loop-slot
invariant-loop-slot l =
    l.octets.items
    ≡ l.fn.octets.items ++ octets_of_blocks (flat_map completed_slot (take l.slot-index l.slots))
