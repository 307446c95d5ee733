use Rattle.std.proofs.Common.{List}
use Rattle.parallel_compile.specs.declared.board.Numbered.{Numbered}
use Rattle.parallel_compile.specs.StreamSteps.{AreFillings, HaveCome}
use Rattle.parallel_compile.proofs.player.put_cells.Given as goal

abbrev pub invariant-loop-number : goal.invariant-loop-number
invariant-loop-number g l = record {
  stays : AreFillings l.desk l.board.fillings.items;
  came : (pieces : List Numbered) × HaveCome l.desk pieces l.initial.board l.board;
}
