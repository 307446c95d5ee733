use Rattle.std.proofs.Common.{[], take}
use Rattle.order_desk.specs.SettleSteps.{AreNoted}
use Rattle.order_desk.proofs.settle.notes_by_cell.none_noted.Given as goal

abbrev pub invariant-loop-book : goal.invariant-loop-book
invariant-loop-book l = AreNoted (take l.book-index l.fn.books) [] [] l.noted.items
