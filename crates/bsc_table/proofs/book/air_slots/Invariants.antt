use Rattle.std.proofs.Common.{◌≡◌, ◌≤◌, ◌-◌}
use Rattle.std.specs.Prelude.{vec_len, vec_capacity}
use Rattle.bsc_table.specs.Book.{air_pairs}
use Rattle.bsc_table.specs.BookSteps.{AreAired}
use Rattle.bsc_table.proofs.book.air_slots.Given as goal

abbrev pub invariant-loop-slot : goal.invariant-loop-slot
invariant-loop-slot l =
    AreAired l.slot l.initial.plan l.plan (air_pairs l.initial.air.items) (air_pairs l.air.items)
    × (vec_len l.air ≡ l.slot)
    × (vec_capacity l.initial.air ≤ vec_capacity l.air)
    × (l.slot ≤ l.to)

abbrev pub decreases-loop-slot : goal.decreases-loop-slot
decreases-loop-slot l = l.to - l.slot
