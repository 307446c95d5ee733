-- The slots so far are completed.
use Rattle.std.proofs.Common.{◌≡◌, take}
use Rattle.std.specs.List.{flat_map}
use Rattle.short_pages.specs.Slots.{completed_slot}
use Rattle.short_pages.proofs.slot.completed_blocks.Given as goal

abbrev pub invariant-loop-slot : goal.invariant-loop-slot
invariant-loop-slot l = l.whole.items ≡ flat_map completed_slot (take l.slot-index l.slots)
