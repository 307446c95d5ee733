use Rattle.std.proofs.Common.{◌≡◌, ◌-◌, All}
use Rattle.tickets.specs.Draws.{IsSeatOf}
use Rattle.parallel_compile.specs.Gathered.{piece_numbers}
use Rattle.parallel_compile.specs.Workers.{IsPieceOfRecord}
use Rattle.parallel_compile.proofs.Drawn.{above}
use Rattle.parallel_compile.proofs.work.draw_all.Given as goal

abbrev pub invariant-loop-index : goal.invariant-loop-index
invariant-loop-index g l = record {
  of : IsSeatOf l.counter l.seat;
  parts : l.seat.parts ≡ 1;
  drawn : piece_numbers l.pieces.items ≡ l.seat.drawn;
  made : All (IsPieceOfRecord l.records) l.pieces.items;
}

abbrev pub decreases-loop-index : goal.decreases-loop-index
decreases-loop-index g l = l.counter.limit - above l.seat.drawn
