-- What `warnc verify` makes of a book and of tapes: the table of what the tapes have otherwise. Own.
use Rattle.std.specs.Prelude.{◌≡◌, ⊤, ℕ, ◌<◌, List, [], Option, IfSome, length, map}
use Rattle.std.specs.Io.KnownBytes.{Appends, Consumes, IsAtEnd}
use Rattle.alert_book.specs.declared.network.Origin.{Origin}
use Rattle.alert_book.specs.declared.network.Origin.TheVariants as origin
use Rattle.device_ends.specs.Moves.{AppendsFront}
use Rattle.device_ends.specs.Source.{reader_of}
use Rattle.device_ends.specs.declared.reading.Source.{Source}
use Rattle.handset.specs.Recording.{TapeRecording, AreRecordings}
use Rattle.handset.specs.Tape.{IsTapesFault}
use Rattle.bsc_table.specs.Record.{Record}
use Rattle.short_pages.specs.Slots.{recording_by}
use Rattle.short_pages.specs.declared.pages.Pages.{Pages}
use Rattle.verification.specs.Rows.{AreRows}
use Rattle.verification.specs.Table.{IsTextOf}
use Rattle.verification.specs.declared.detail.TableLayout.{TableLayout}
use Rattle.verification.specs.declared.row.Row.{Row}
use Rattle.warnc_run.specs.Alone.{IsUnmadeOf}
use Rattle.warnc_run.specs.Products.{RunOf}
use Rattle.warnc_run.specs.Records.{HasRunBook, IsRecordsFault}
use Rattle.warnc_verify.specs.declared.fault.VerifyFault.{VerifyFault}
use Rattle.warnc_verify.specs.declared.fault.VerifyFault.TheVariants as faults

-- what the readers of the book and of the tapes have left before and after a call
pub record Readers : Type 0 where
  pub book_first : Option (List ℕ)
  pub book_last : Option (List ℕ)
  pub tapes_first : Option (List ℕ)
  pub tapes_last : Option (List ℕ)

abbrev pub readers_of : {B R : Type 0} → (book_left : B → Option (List ℕ)) → (left : R → Option (List ℕ))
    → (book_first book_last : Source B) → (first last : Source R) → Readers
readers_of book_left left book_first book_last first last = record {
  book_first = book_left (reader_of book_first);
  book_last = book_left (reader_of book_last);
  tapes_first = left (reader_of first);
  tapes_last = left (reader_of last);
}

-- the octets of the book were read: they are a book, and its run has these records
abbrev pub RunsBook : (from : Origin) (slots : ℕ) → Readers → List Record → Type 0
RunsBook from slots ends records = HasRunBook from slots ends.book_first ends.book_last records

-- the octets of a book and of tapes, and rows that tell how the tapes, read by these pages, differ from what the cells
-- of the book's run were asked: none, if they don't
pub record DiffersBy (from : Origin) (slots : ℕ) (pages : Pages) (rows : List Row) (book tapes : List ℕ) : Type 0 where
  pub records : List Record
  pub run : RunOf from slots 1 book records
  pub recordings : List TapeRecording
  pub recordings_are : AreRecordings tapes recordings
  pub rows_are : AreRows records (map (recording_by pages) recordings) rows

-- the octets are a book, or a network book whose group has one, and the book has a run
abbrev pub HasRun : (from : Origin) (slots : ℕ) (book : List ℕ) → Type 0
HasRun from slots book = (records : List Record) × RunOf from slots 1 book records

-- there is one row at least
abbrev pub Differs : (from : Origin) (slots : ℕ) (pages : Pages) → (book tapes : List ℕ) → Type 0
Differs from slots pages book tapes = (rows : List Row) × DiffersBy from slots pages rows book tapes × (0 < length rows)

-- this is the text of the rows of these records and recordings, laid out as is wanted
abbrev pub IsTextBy : (pages : Pages) (layout : TableLayout) → List Record → List TapeRecording → List Row
    → (output : List ℕ) → Type 0
IsTextBy pages layout records recordings rows output =
    IsTextOf layout records (map (recording_by pages) recordings) rows output

-- these rows tell the differences, and this is their table
abbrev pub IsTableOf : (from : Origin) (slots : ℕ) (pages : Pages) (layout : TableLayout) → List Row
    → (book tapes output : List ℕ) → Type 0
IsTableOf from slots pages layout rows book tapes output =
    (differ : DiffersBy from slots pages rows book tapes)
    × IsTextBy pages layout differ.records differ.recordings rows output

-- there is no difference, and the table has none
abbrev pub IsVerified : (from : Origin) (slots : ℕ) (pages : Pages) (layout : TableLayout)
    → (book tapes output : List ℕ)
    → Type 0
IsVerified from slots pages layout book tapes output = IsTableOf from slots pages layout [] book tapes output

-- there are some, and the table has them
abbrev pub HasDifferences : (from : Origin) (slots : ℕ) (pages : Pages) (layout : TableLayout)
    → (book tapes output : List ℕ)
    → Type 0
HasDifferences from slots pages layout book tapes output =
    (rows : List Row) × IsTableOf from slots pages layout rows book tapes output × (0 < length rows)

-- the book and the tapes were read to their ends, and these rows tell how the tapes differ from the book
pub record Finds (from : Origin) (slots : ℕ) (pages : Pages) (ends : Readers) (rows : List Row) : Type 0 where
  pub book : List ℕ
  pub book_read : Consumes ends.book_first ends.book_last book
  pub book_ended : IsAtEnd ends.book_last
  pub tapes : List ℕ
  pub tapes_read : IfSome ends.tapes_first (λ input. input ≡ tapes)
  pub tapes_ended : IsAtEnd ends.tapes_last
  pub differ : DiffersBy from slots pages rows book tapes

-- the table of some rows was written, or a front of it
abbrev pub FindsAndWrites : (from : Origin) (slots : ℕ) (pages : Pages) (layout : TableLayout) → Readers
    → (old new : Option (List ℕ)) → List Row → Type 0
FindsAndWrites from slots pages layout ends old new rows =
    (finds : Finds from slots pages ends rows) × (output : List ℕ)
    × IsTextBy pages layout finds.differ.records finds.differ.recordings rows output
    × Appends old new output

abbrev pub FindsAndWritesFront : (from : Origin) (slots : ℕ) (pages : Pages) (layout : TableLayout) → Readers
    → (old new : Option (List ℕ)) → List Row → Type 0
FindsAndWritesFront from slots pages layout ends old new rows =
    (finds : Finds from slots pages ends rows) × (output : List ℕ)
    × IsTextBy pages layout finds.differ.records finds.differ.recordings rows output
    × AppendsFront old new output

-- why it isn't so that there are no differences: the book has no run; or it has one, and the tapes are none; or there
-- are as many differences, one or more, and they were written; or memory ran out; or the writer failed
abbrev pub IsVerifyFault : (from : Origin) (slots : ℕ) (pages : Pages) (layout : TableLayout) → Readers
    → (old new : Option (List ℕ)) → VerifyFault → Type 0
IsVerifyFault from slots pages layout ends old new (faults.Run f) =
    IsRecordsFault from slots ends.book_first ends.book_last f
IsVerifyFault from slots pages layout ends old new (faults.Tapes f) =
    (records : List Record) × RunsBook from slots ends records × IfSome ends.tapes_first (λ input. IsTapesFault input f)
IsVerifyFault from slots pages layout ends old new (faults.Differences count) =
    (rows : List Row) × FindsAndWrites from slots pages layout ends old new rows × (length rows ≡ count) × (0 < count)
IsVerifyFault from slots pages layout ends old new faults.Refused = ⊤
IsVerifyFault from slots pages layout ends old new faults.WriteFailed =
    (rows : List Row) × FindsAndWritesFront from slots pages layout ends old new rows

-- a fault that tells of differences, and one with which something may have been written
abbrev pub IsDifference : VerifyFault → Type 0
IsDifference (faults.Differences count) = ⊤
IsDifference other = ⊥

abbrev pub HasWritten : VerifyFault → Type 0
HasWritten (faults.Differences count) = ⊤
HasWritten faults.WriteFailed = ⊤
HasWritten other = ⊥

-- a fault of the book or of its run
abbrev pub IsOfBookOrRun : VerifyFault → Type 0
IsOfBookOrRun (faults.Run f) = ⊤
IsOfBookOrRun other = ⊥

-- why octets aren't judged: they are no book; or they are a book that has a run, and the others are no tapes; or memory
-- ran out
abbrev pub IsUnjudged : (slots : ℕ) (book tapes : List ℕ) → VerifyFault → Type 0
IsUnjudged slots book tapes (faults.Run f) = IsUnmadeOf book f
IsUnjudged slots book tapes (faults.Tapes f) = HasRun origin.Book slots book × IsTapesFault tapes f
IsUnjudged slots book tapes faults.Refused = ⊤
IsUnjudged slots book tapes other = ⊥
