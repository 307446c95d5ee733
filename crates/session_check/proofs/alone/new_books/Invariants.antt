-- The cells so far have their books.
use Rattle.std.proofs.Common.{◌≡◌, map, take}
use Rattle.bsc_table.specs.Transitions.{opened}
use Rattle.session_check.proofs.alone.new_books.Given as goal

abbrev pub invariant-loop-cell : goal.invariant-loop-cell
invariant-loop-cell l = l.books.items ≡ map (λ cell. opened cell l.slots) (take l.cell-index l.cells)
