use Rattle.std.proofs.Common.{◌≡◌, ◌∙◌}
use Rattle.std.specs.Io.KnownBytes.{Appends}
use Rattle.device_ends.specs.Moves.{AppendsFront}
use Rattle.device_ends.specs.Sink.{writer_of}
use Rattle.warnc_inspect.specs.ReadOutput.{table_of}
use Rattle.warnc_inspect.proofs.TableLaws.{output_then}
use Rattle.warnc_inspect.proofs.read.read_stream.Goals as goal

pub returns-in-Ok-write_all-clause-ok : goal.returns-in-Ok-write_all-clause-ok
returns-in-Ok-write_all-clause-ok g c =
    let is = c.in-Ok.ensures.table in
    let written : c.deref.result.now ≡ table_of is.readings =
    c.deref.ensures.value ∙ c.in-Ok-into_octets.ensures _ is.holds in
    record {
      of_input =
          output_then c.args.wanted _ _
          (Appends (g.W.Write.contents (writer_of c.args.sink.now))
          (g.W.Write.contents (writer_of c.write_all.new.sink)))
          is _ written c.in-Ok-write_all.ensures.ok;
      of_some = (
        is.of_some.0,
        c.deref.result.now,
        record { readings = is.readings; tapes = is.of_some.1; written = written },
        c.in-Ok-write_all.ensures.ok,
      );
    }

pub returns-clause-err : goal.returns-clause-err
returns-clause-err g c =
    let is = c.in-Ok.ensures.table in
    let written : c.deref.result.now ≡ table_of is.readings =
    c.deref.ensures.value ∙ c.in-Ok-into_octets.ensures _ is.holds in
    output_then c.args.wanted _ _
    (AppendsFront (g.W.Write.contents (writer_of c.args.sink.now))
    (g.W.Write.contents (writer_of c.write_all.new.sink)))
    is _ written c.in-Err-write_all.ensures.err
