use Rattle.std.proofs.Common.{List}
use Rattle.parallel_compile.specs.declared.board.Numbered.{Numbered}
use Rattle.parallel_compile.specs.StreamSteps.{AreFillings, HaveCome}
use Rattle.parallel_compile.proofs.stream.collect.Given as goal

abbrev pub invariant-loop : goal.invariant-loop
invariant-loop g l = record {
  stays : AreFillings l.desk l.board.fillings.items;
  came : (pieces : List Numbered) × HaveCome l.desk pieces l.initial.board l.board;
}
