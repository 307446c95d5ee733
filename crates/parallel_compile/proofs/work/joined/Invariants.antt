use Rattle.std.proofs.Common.{◌≡◌, ◌+◌, ◌<◌, All, length, true}
use Rattle.tickets.specs.Draws.{IsSeatOf}
use Rattle.parallel_compile.specs.Gathered.{piece_numbers}
use Rattle.parallel_compile.specs.Workers.{IsPieceOfRecord}
use Rattle.parallel_compile.proofs.work.joined.Given as goal

abbrev pub invariant-loop-work : goal.invariant-loop-work
invariant-loop-work l = record {
  of : IsSeatOf l.counter l.seat;
  parts : l.seat.parts + length l.fn.works.items ≡ 65 + length l.yielded;
  over : 0 < length l.yielded → l.seat.over ≡ true;
  drawn : piece_numbers l.pieces.items ≡ l.seat.drawn;
  made : All (IsPieceOfRecord l.records) l.pieces.items;
}
