use Rattle.std.proofs.Common.{◌≡◌, ℕ, false, List, take}
use Rattle.std.specs.Io.KnownBytes.{Appends}
use Rattle.std.specs.List.{flat_map}
use Rattle.device_ends.specs.Sink.{sink_failed, writer_of}
use Rattle.warnc_run.proofs.finish.write_tapes.Given as goal

abbrev pub invariant-loop-tape : goal.invariant-loop-tape
invariant-loop-tape g l =
    Appends (g.W.Write.contents (writer_of l.fn.sink)) (g.W.Write.contents (writer_of l.sink))
    (flat_map (λ (tape : List ℕ). tape) (take l.tape-index l.tapes))
    × (sink_failed l.sink ≡ false)
