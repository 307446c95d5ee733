use Rattle.std.proofs.Common.{take}
use Rattle.parallel_compile.specs.StreamSteps.{AreFillings, HaveCome}
use Rattle.parallel_compile.proofs.board.Board.put_all.Given as goal

abbrev pub invariant-loop-numbered : goal.invariant-loop-numbered
invariant-loop-numbered l = record {
  stays : AreFillings l.desk l.self.fillings.items;
  come : HaveCome l.desk (take l.numbered-index l.pieces) l.initial.self l.self;
}
