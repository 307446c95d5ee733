use Rattle.std.proofs.Common.{take}
use Rattle.alert_book.specs.NetworkSteps.{AreSeen}
use Rattle.alert_book.proofs.network.group_cells.are_distinct.Given as goal

abbrev pub invariant-loop-cell : goal.invariant-loop-cell
invariant-loop-cell l = AreSeen l.seen (take l.cell-index l.cells)
