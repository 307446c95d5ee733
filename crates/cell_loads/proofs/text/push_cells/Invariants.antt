use Rattle.std.proofs.Common.{◌++◌, ℕ, List, take}
use Rattle.std.specs.List.{flat_map}
use Rattle.cell_loads.specs.LoadsText.{cell_text}
use Rattle.cell_loads.specs.TableSteps.{IsTable}
use Rattle.cell_loads.proofs.text.push_cells.Given as goal

abbrev pub invariant-loop-run : goal.invariant-loop-run
invariant-loop-run l =
    (octets : List ℕ) → IsTable l.fn.table octets
    → IsTable l.table (octets ++ flat_map (cell_text l.start) (take l.run-index l.records))
