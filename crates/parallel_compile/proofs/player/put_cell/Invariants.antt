use Rattle.std.proofs.Common.{◌-◌, List}
use Rattle.parallel_compile.specs.declared.board.Numbered.{Numbered}
use Rattle.parallel_compile.specs.StreamSteps.{AreFillings, HaveCome}
use Rattle.parallel_compile.proofs.player.put_cell.Given as goal

abbrev pub invariant-loop-from : goal.invariant-loop-from
invariant-loop-from g l = record {
  stays : AreFillings l.desk l.board.fillings.items;
  came : (pieces : List Numbered) × HaveCome l.desk pieces l.initial.board l.board;
}

abbrev pub decreases-loop-from : goal.decreases-loop-from
decreases-loop-from g l = l.desk.slots - l.from
