use Rattle.std.proofs.Common.{◌≡◌, ◌-◌, ℕ, List, Option, length, map, true}
use Rattle.bsc_table.specs.Record.{Record}
use Rattle.device_ends.specs.Source.{reader_of, source_failed}
use Rattle.handset.specs.Recording.{ReadsRecordings, TapeRecording}
use Rattle.short_pages.specs.Slots.{recording_by}
use Rattle.short_pages.specs.declared.pages.Pages.{Pages}
use Rattle.verification.specs.Found.{FindingsState, HasTaken}
use Rattle.verification.specs.declared.detail.TableLayout.{TableLayout}
use Rattle.warnc_verify.proofs.side_by_side.judged_side_by_side.Given as goal

-- so many tapes were read, judged and taken
pub record AreJudgedSoFar (pages : Pages) (layout : TableLayout) (records : List Record) (first now : Option (List ℕ))
    (count : ℕ) (findings : FindingsState) : Type 0
  where
    pub recordings : List TapeRecording
    pub read : ReadsRecordings first now recordings
    pub many : length recordings ≡ count
    pub taken : HasTaken layout records findings (map (recording_by pages) recordings)

abbrev pub invariant-loop-findings : goal.invariant-loop-findings
invariant-loop-findings g l = record {
  tapes : AreJudgedSoFar l.fn.pages l.fn.layout l.fn.records.items
      (g.R.Read.remaining (reader_of l.initial.tapes)) (g.R.Read.remaining (reader_of l.tapes)) l.recorder l.findings;
  stays : source_failed l.initial.tapes ≡ true → l.tapes ≡ l.initial.tapes;
}

abbrev pub decreases-loop-findings : goal.decreases-loop-findings
decreases-loop-findings g l = 64 - l.recorder
