-- What a contract sees of a `Sink`.
use Rattle.std.specs.Prelude.{Bool}
use Rattle.device_ends.specs.declared.writing.Sink.{Sink}

-- the writer inside
abbrev pub writer_of : {W : Type 0} → Sink W → W
writer_of sink = sink.writer

-- whether the writer has failed
abbrev pub sink_failed : {W : Type 0} → Sink W → Bool
sink_failed sink = sink.failed
