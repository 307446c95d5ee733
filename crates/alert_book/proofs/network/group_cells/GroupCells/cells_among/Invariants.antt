use Rattle.std.proofs.Common.{◌≡◌, filter, take}
use Rattle.alert_book.specs.Cells.{is_among}
use Rattle.alert_book.proofs.network.group_cells.GroupCells.cells_among.Given as goal

abbrev pub invariant-loop-cell : goal.invariant-loop-cell
invariant-loop-cell l = l.list.items ≡ filter (is_among l.fn.self.cells) (take l.cell-index l.fn.cells)
