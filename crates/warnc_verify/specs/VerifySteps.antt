-- Steps of a verification (own). The contracts of private functions alone speak of them.
use Rattle.std.specs.Prelude.{◌≡◌, ⊤, ℕ, ◌+◌, ◌<◌, ◌≤◌, List, Option, All, IfOk, IfSome, length, map, ◌++◌}
use Rattle.alert_book.specs.declared.network.Origin.{Origin}
use Rattle.device_ends.specs.Moves.{AppendsFront}
use Rattle.handset.specs.Recording.{TapeRecording, AreRecordings, ReadsRecordings}
use Rattle.handset.specs.Tape.{max_tapes, IsTapesFault}
use Rattle.bsc_table.specs.Record.{Record}
use Rattle.short_pages.specs.Slots.{recording_by}
use Rattle.short_pages.specs.declared.pages.Pages.{Pages}
use Rattle.verification.specs.Found.{FindingsState, HasTaken}
use Rattle.verification.specs.Judgement.{AreFoundOf, FindsOf}
use Rattle.verification.specs.declared.detail.TableLayout.{TableLayout}
use Rattle.verification.specs.declared.row.Row.{Row}
use Rattle.warnc_run.specs.Records.{IsRecordsFault}
use Rattle.warnc_verify.specs.Verified.{Finds, IsTextBy, Readers, RunsBook}
use Rattle.warnc_verify.specs.declared.fault.VerifyFault.{VerifyFault}
use Rattle.warnc_verify.specs.declared.fault.VerifyFault.TheVariants as faults
use Rattle.warnc_verify.specs.declared.side_by_side.Judging.{Judging}

-- what tapes are judged by: the records of a run, and which of their pages are read; and how the table is laid
-- out
pub record Judged : Type 0 where
  pub layout : TableLayout
  pub records : List Record
  pub pages : Pages

-- the tapes of an input, if it is known, and else of some octets were taken, read by these pages
pub record HaveJudged (pages : Pages) (layout : TableLayout) (records : List Record) (input : Option (List ℕ))
    (findings : FindingsState) : Type 0
  where
    pub recordings : List TapeRecording
    pub of_input : IfSome input (λ octets. AreRecordings octets recordings)
    pub of_some : (octets : List ℕ) × AreRecordings octets recordings
    pub taken : HasTaken layout records findings (map (recording_by pages) recordings)

-- what some tapes hold that are judged together
abbrev pub held_by : List Judging → List TapeRecording
held_by batch = map (λ one. one.recording) batch

-- of an input, of which so many tapes were read before, whatever they hold, the next tapes hold these, and there may be
-- more
pub record ReadsMore (count next : ℕ) (old new : Option (List ℕ)) (recordings : List TapeRecording) : Type 0 where
  pub read : ReadsRecordings old new recordings
  pub next_is : next ≡ count + length recordings
  pub some : 0 < length recordings
  pub few : next ≤ max_tapes

-- or they hold these, and are the last ones
abbrev pub AreTheLast : (count : ℕ) (left : Option (List ℕ)) → List TapeRecording → Type 0
AreTheLast count left last = (first : Option (List ℕ)) (before : List TapeRecording)
    → ReadsRecordings first left before
    → length before ≡ count
    → IfSome first (λ input. AreRecordings input (before ++ last))
    × ((octets : List ℕ) × AreRecordings octets (before ++ last))

-- what a tape finds, read by these pages, if memory was there
abbrev pub IsJudgedBy : (pages : Pages) → FindingsState → Judging → Type 0
IsJudgedBy pages findings one = IfOk one.found (FindsOf findings (recording_by pages one.recording))

-- a tape was judged, and holds what it did
abbrev pub WasJudged : (pages : Pages) → FindingsState → (old new : Judging) → Type 0
WasJudged pages findings old new = (new.recording ≡ old.recording) × IsJudgedBy pages findings new

-- tapes are taken, one after another, that were judged when these had been taken
abbrev pub IsFoundAfter : (pages : Pages) (layout : TableLayout) → List Record → (tapes : List TapeRecording) → Judging
    → Type 0
IsFoundAfter pages layout records tapes one =
    IfOk one.found (AreFoundOf layout records tapes (recording_by pages one.recording))

abbrev pub TakesBatch : (pages : Pages) → (old new : FindingsState) → List Judging → Type 0
TakesBatch pages old new batch = (layout : TableLayout) (records : List Record) (tapes : List TapeRecording)
    → HasTaken layout records old tapes
    → All (IsFoundAfter pages layout records tapes) batch
    → HasTaken layout records new (tapes ++ map (recording_by pages) (held_by batch))

-- why there are no rows
abbrev pub IsRowsFault : (from : Origin) (slots : ℕ) → Readers → VerifyFault → Type 0
IsRowsFault from slots ends (faults.Run f) = IsRecordsFault from slots ends.book_first ends.book_last f
IsRowsFault from slots ends (faults.Tapes f) =
    (records : List Record) × RunsBook from slots ends records × IfSome ends.tapes_first (λ input. IsTapesFault input f)
IsRowsFault from slots ends faults.Refused = ⊤
IsRowsFault from slots ends other = ⊥

-- why a text wasn't written
abbrev pub IsTextFault : (old new : Option (List ℕ)) → (text : List ℕ) → VerifyFault → Type 0
IsTextFault old new text faults.WriteFailed = AppendsFront old new text
IsTextFault old new text other = ⊥

-- what was found, and its text
abbrev pub FindsText : (from : Origin) (slots : ℕ) (pages : Pages) (layout : TableLayout) → Readers → List Row
    → (text : List ℕ) → Type 0
FindsText from slots pages layout ends rows text =
    (finds : Finds from slots pages ends rows)
    × IsTextBy pages layout finds.differ.records finds.differ.recordings rows text
