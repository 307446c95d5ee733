use Rattle.std.proofs.Common.{◌≡◌, drop, slice_index_or}
use Rattle.std.specs.List.{list_any}
use Rattle.asked_orders.specs.Lacks.{has_asked}
use Rattle.asked_orders.specs.declared.lacks.Fate.TheVariants as fates
use Rattle.asked_orders.proofs.lacks.is_asked_at.Given as goal

abbrev pub invariant-loop-in_cell : goal.invariant-loop-in_cell
invariant-loop-in_cell l =
    list_any (λ in_cell. has_asked (slice_index_or in_cell l.place fates.Unasked)) (drop l.in_cell-index l.cells)
    ≡ list_any (λ in_cell. has_asked (slice_index_or in_cell l.place fates.Unasked)) l.cells
