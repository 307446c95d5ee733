-- A book has one run, and tapes hold one list of recordings: so there is one list of rows, and one table.
use Rattle.std.proofs.Common.{◌≡◌, List, [], None, ap, arith, length, map, refl, sym, subst}
use Rattle.book_runs.specs.LiveLaws.{OneSessionIsARun}
use Rattle.book_runs.specs.OneRun.{RunsAreOne}
use Rattle.bsc_table.specs.Record.{Record}
use Rattle.handset.specs.Laws.{RecordingsAreOne}
use Rattle.handset.specs.Recording.{TapeRecording}
use Rattle.short_pages.specs.Slots.{recording_by}
use Rattle.verification.specs.RowText.{rows_text}
use Rattle.verification.specs.Table.{IsTable}
use Rattle.verification.specs.declared.detail.Detail.TheVariants as detail
use Rattle.verification.specs.declared.detail.TableLayout.{TableLayout}
use Rattle.verification.specs.declared.row.Row.{Row}
use Rattle.verification_laws.specs.OneList.{TapesHaveOneTable}
use Rattle.warnc_run.proofs.OneOutput.{records_are_one}
use Rattle.warnc_verify.specs.Laws.{VerdictsExclude, VerifiedIsOne}

-- the rows and the table of a book and of tapes are one
pub verified-is-one : RunsAreOne → OneSessionIsARun → RecordingsAreOne → TapesHaveOneTable → VerifiedIsOne
verified-is-one runs law recordings tables from slots pages layout rows others book tapes output other one two =
    let a = one.0 in
    let b = two.0 in
    let records = records_are_one runs law from slots book a.records b.records a.run b.run in
    let held : a.recordings ≡ b.recordings =
    recordings tapes a.recordings b.recordings a.recordings_are b.recordings_are in
    let first : IsTable layout a.records (map (recording_by pages) a.recordings) rows output =
    record { rows_are = a.rows_are; text_is = one.1 } in
    let second : IsTable layout b.records (map (recording_by pages) b.recordings) others other =
    record { rows_are = b.rows_are; text_is = two.1 } in
    let moved : IsTable layout a.records (map (recording_by pages) a.recordings) others other =
    subst (λ (r : List Record). IsTable layout r (map (recording_by pages) a.recordings) others other) (sym records)
    (subst (λ (t : List TapeRecording). IsTable layout b.records (map (recording_by pages) t) others other) (sym held)
    second) in
    tables layout a.records (map (recording_by pages) a.recordings) rows others output other first moved

-- so no tapes are verified and have a difference
pub verdicts-exclude : VerifiedIsOne → VerdictsExclude
verdicts-exclude is_one from slots pages layout other_layout book tapes output other none some =
    let plain : TableLayout = record { detail = detail.Plain; start = None } in
    let same = (is_one from slots pages plain [] some.0 book tapes (rows_text []) (rows_text some.0)
    (none.0, refl) (some.1.0, refl)).0 in
    omega (arith, some.2, ap (λ (r : List Row). length r) same)
