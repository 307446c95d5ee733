use Rattle.std.proofs.Common.{take}
use Rattle.std.specs.List.{flat_map}
use Rattle.handset.specs.Keeping.{HasRead}
use Rattle.short_pages.specs.Slots.{completed_slot}
use Rattle.short_pages.proofs.phone.show.Given as goal

abbrev pub invariant-loop-slot : goal.invariant-loop-slot
invariant-loop-slot l = HasRead l.handset (flat_map completed_slot (take l.slot-index l.slots))
