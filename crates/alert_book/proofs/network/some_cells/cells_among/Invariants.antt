use Rattle.std.proofs.Common.{◌≡◌, filter, take}
use Rattle.alert_book.specs.Restricted.{in_part}
use Rattle.alert_book.proofs.network.some_cells.cells_among.Given as goal

abbrev pub invariant-loop-cell : goal.invariant-loop-cell
invariant-loop-cell l = l.kept.items ≡ filter (in_part l.fn.these) (take l.cell-index l.fn.cells)
