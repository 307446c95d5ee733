use Rattle.handset.specs.Recording.{AreRecordings}
use Rattle.std.proofs.Common.{List, ℕ, map}
use Rattle.short_pages.specs.Slots.{recording_by}
use Rattle.warnc_verify.proofs.Inputs.{octets_of}
use Rattle.warnc_verify.proofs.verify.table_of.Goals as goal

pub returns-clause-ok : goal.returns-clause-ok
returns-clause-ok g c =
    let records = c.in_ok-records.records.items in
    let run = c.in_ok-records.ensures.ok in
    let judged = c.in_ok-findings.ensures.ok in
    let tapes = octets_of (λ (octets : List ℕ). AreRecordings octets judged.recordings) _ judged.of_input
    judged.of_some in
    let held = map (recording_by c.args.pages) judged.recordings in
    let made = c.in_ok-table.ensures c.args.layout records held judged.taken in (
      record {
        book = run.input;
        book_read = run.read;
        book_ended = run.ended;
        tapes = tapes.0;
        tapes_read = tapes.1;
        tapes_ended = c.in_ok-findings.ensures.whole;
        differ = record {
          records = records;
          run = run.made;
          recordings = judged.recordings;
          recordings_are = tapes.2;
          rows_are = made.rows_are;
        };
      },
      made.text_is,
    )
