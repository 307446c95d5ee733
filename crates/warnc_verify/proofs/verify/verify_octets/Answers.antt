use Rattle.std.proofs.Common.{rules, ℕ, List, map}
use Rattle.handset.specs.Recording.{AreRecordings}
use Rattle.short_pages.specs.Slots.{recording_by}
use Rattle.warnc_verify.proofs.verify.verify_octets.Goals as goal

pub returns-clause-ok : goal.returns-clause-ok
returns-clause-ok c =
    let ran = c.in_ok-ran.ensures.ok in
    let judged = c.in_ok-findings.ensures.ok in
    let recorded : AreRecordings c.args.tapes.now judged.recordings = search (rules, judged.of_input) in
    let held = map (recording_by c.args.pages) judged.recordings in
    let made = c.in_ok-table.ensures c.args.layout c.in_ok-ran.ran.records.items held judged.taken in (
      record {
        records = c.in_ok-ran.ran.records.items;
        run = ran.run;
        recordings = judged.recordings;
        recordings_are = recorded;
        rows_are = made.rows_are;
      },
      made.text_is,
    )
