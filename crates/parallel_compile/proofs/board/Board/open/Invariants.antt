use Rattle.std.proofs.Common.{take}
use Rattle.parallel_compile.specs.StreamSteps.{AreFillings}
use Rattle.parallel_compile.proofs.board.Board.open.Given as goal

abbrev pub invariant-loop-cell : goal.invariant-loop-cell
invariant-loop-cell l =
    AreFillings (record { cells = take l.cell-index l.desk.cells; slots = l.desk.slots }) l.fillings.items
