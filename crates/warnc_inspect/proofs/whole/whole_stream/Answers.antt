-- The octets that were written are those of the tapes that were taken.
use Rattle.std.proofs.Common.{◌≡◌, [], ◌∙◌}
use Rattle.std.specs.Io.KnownBytes.{Appends}
use Rattle.device_ends.specs.Moves.{AppendsFront}
use Rattle.device_ends.specs.Sink.{writer_of}
use Rattle.handset.proofs.TapeExtents.{stops-failed}
use Rattle.warnc_inspect.specs.WholeOutput.{whole_tapes}
use Rattle.warnc_inspect.proofs.WholeLaws.{whole_then}
use Rattle.warnc_inspect.proofs.whole.whole_stream.Goals as goal

pub returns-then-failed-clause-extent : goal.returns-then-failed-clause-extent
returns-then-failed-clause-extent g c = stops-failed 64 _

pub returns-in-Ok-write_all-clause-ok : goal.returns-in-Ok-write_all-clause-ok
returns-in-Ok-write_all-clause-ok g c =
    let taken = c.in-Ok.ensures.ok in
    let written : c.deref.result.now ≡ whole_tapes taken.recordings =
    c.deref.ensures.value ∙ taken.taken tt [] c.new.ensures.items in
    record {
      of_input =
          whole_then
          (Appends (g.W.Write.contents (writer_of c.args.sink.now))
          (g.W.Write.contents (writer_of c.write_all.new.sink)))
          taken _ written c.in-Ok-write_all.ensures.ok;
      of_some = (
        taken.of_some.0,
        c.deref.result.now,
        record { recordings = taken.recordings; tapes = taken.of_some.1; written = written },
        c.in-Ok-write_all.ensures.ok,
      );
    }

pub returns-clause-err : goal.returns-clause-err
returns-clause-err g c =
    let taken = c.in-Ok.ensures.ok in
    let written : c.deref.result.now ≡ whole_tapes taken.recordings =
    c.deref.ensures.value ∙ taken.taken tt [] c.new.ensures.items in
    whole_then
    (AppendsFront (g.W.Write.contents (writer_of c.args.sink.now))
    (g.W.Write.contents (writer_of c.write_all.new.sink)))
    taken _ written c.in-Err-write_all.ensures.err
