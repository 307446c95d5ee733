use Rattle.std.proofs.Common.{◌++◌, ℕ, List}
use Rattle.std.specs.List.{flat_map, range_with_len}
use Rattle.cell_loads.specs.LoadsText.{change_text}
use Rattle.cell_loads.specs.TableSteps.{IsTable}
use Rattle.cell_loads.proofs.text.push_slots.Given as goal

abbrev pub invariant-loop-slot : goal.invariant-loop-slot
invariant-loop-slot l =
    (octets : List ℕ) → IsTable l.fn.table octets
    → IsTable l.table (octets ++ flat_map (change_text l.start l.cell l.loads) (range_with_len 0 l.slot))
