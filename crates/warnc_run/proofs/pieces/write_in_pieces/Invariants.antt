use Rattle.std.proofs.Common.{◌≡◌, false, take}
use Rattle.std.specs.Io.KnownBytes.{Appends}
use Rattle.std.specs.List.{flat_map}
use Rattle.cbch_blocks.specs.RecordBlocks.{tape_of_record}
use Rattle.device_ends.specs.Sink.{sink_failed, writer_of}
use Rattle.warnc_run.proofs.pieces.write_in_pieces.Given as goal

abbrev pub invariant-loop-run : goal.invariant-loop-run
invariant-loop-run g l =
    Appends (g.W.Write.contents (writer_of l.fn.sink)) (g.W.Write.contents (writer_of l.sink))
    (flat_map tape_of_record (take l.run-index l.records))
    × (sink_failed l.sink ≡ false)
