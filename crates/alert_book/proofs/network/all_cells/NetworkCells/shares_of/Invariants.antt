use Rattle.std.proofs.Common.{◌≡◌, ℕ, [], filter, slice_index_or, take}
use Rattle.alert_book.specs.AllGroupsSteps.{is_placed}
use Rattle.alert_book.proofs.network.all_cells.NetworkCells.shares_of.Given as goal

abbrev pub invariant-loop-cell : goal.invariant-loop-cell
invariant-loop-cell l = (group : ℕ) →
    slice_index_or l.shares group [] ≡ filter (is_placed l.fn.self.groups group) (take l.cell-index l.fn.cells)
