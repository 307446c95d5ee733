use Rattle.std.proofs.Common.{◌≡◌, ◌*◌, false}
use Rattle.device_ends.specs.Sink.{sink_failed, writer_of}
use Rattle.warnc_run.proofs.PieceByPiece.{IsUnderWay}
use Rattle.warnc_run.proofs.pieces.write_tape.Given as goal

abbrev pub invariant-loop-number : goal.invariant-loop-number
invariant-loop-number g l =
    IsUnderWay l.run (l.number * 256) (g.W.Write.contents (writer_of l.fn.sink))
    (g.W.Write.contents (writer_of l.sink))
    × (sink_failed l.sink ≡ false)
