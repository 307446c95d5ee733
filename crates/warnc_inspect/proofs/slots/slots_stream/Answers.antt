-- The octets that were written are those of the tapes that were taken.
use Rattle.std.proofs.Common.{ℕ, List, [], ◌≡◌, ◌∙◌, append-nil, arith, inl, subst, sym}
use Rattle.std.specs.Io.KnownBytes.{Appends}
use Rattle.device_ends.specs.Moves.{AppendsFront}
use Rattle.device_ends.specs.Sink.{writer_of}
use Rattle.handset.proofs.TapeExtents.{stops-failed, stops-refused}
use Rattle.warnc_inspect.specs.ReadSteps.{IsTable}
use Rattle.warnc_inspect.specs.SlotsOutput.{slot_columns, table_of_slots}
use Rattle.warnc_inspect.proofs.SlotsLaws.{slots_then}
use Rattle.warnc_inspect.proofs.slots.slots_stream.Goals as goal

pub returns-then-failed-clause-extent : goal.returns-then-failed-clause-extent
returns-then-failed-clause-extent g c = stops-failed 64 _

pub returns-in_default-clause-extent : goal.returns-in_default-clause-extent
returns-in_default-clause-extent g c = inl (stops-refused 64 _ (omega arith))

pub returns-in-Ok-write_all-clause-ok : goal.returns-in-Ok-write_all-clause-ok
returns-in-Ok-write_all-clause-ok g c =
    let taken = c.in-Ok-record_each.ensures.ok in
    let empty : IsTable c.in-Ok.slots.table (table_of_slots c.args.wanted []) =
    subst (λ (xs : List ℕ). IsTable c.in-Ok.slots.table xs) (sym (append-nil slot_columns)) c.in-Ok.ensures.table in
    let written : c.deref.result.now ≡ table_of_slots c.args.wanted taken.recordings =
    c.deref.ensures.value
    ∙ c.in-Ok-into_octets.ensures _ (taken.taken c.args.wanted [] (c.in-Ok.ensures.wanted, empty)).1 in
    record {
      of_input =
          slots_then c.args.wanted
          (Appends (g.W.Write.contents (writer_of c.args.sink.now))
          (g.W.Write.contents (writer_of c.write_all.new.sink)))
          taken _ written c.in-Ok-write_all.ensures.ok;
      of_some = (
        taken.of_some.0,
        c.deref.result.now,
        record { recordings = taken.recordings; tapes = taken.of_some.1; written = written },
        c.in-Ok-write_all.ensures.ok,
      );
    }

pub returns-clause-err : goal.returns-clause-err
returns-clause-err g c =
    let taken = c.in-Ok-record_each.ensures.ok in
    let empty : IsTable c.in-Ok.slots.table (table_of_slots c.args.wanted []) =
    subst (λ (xs : List ℕ). IsTable c.in-Ok.slots.table xs) (sym (append-nil slot_columns)) c.in-Ok.ensures.table in
    let written : c.deref.result.now ≡ table_of_slots c.args.wanted taken.recordings =
    c.deref.ensures.value
    ∙ c.in-Ok-into_octets.ensures _ (taken.taken c.args.wanted [] (c.in-Ok.ensures.wanted, empty)).1 in
    slots_then c.args.wanted
    (AppendsFront (g.W.Write.contents (writer_of c.args.sink.now))
    (g.W.Write.contents (writer_of c.write_all.new.sink)))
    taken _ written c.in-Err-write_all.ensures.err
