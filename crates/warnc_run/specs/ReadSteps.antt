-- Steps of reading the tapes of records, which workers do side by side (own). The contracts of private functions alone
-- speak of them.
use Rattle.std.specs.Prelude.{◌≡◌, ⊤, ℕ, ◌<◌, List, [], ◌∷◌, length, IfOk, Result, Ok, Err, Vec}
use Rattle.std.specs.Prelude.{slice_index_or}
use Rattle.std.specs.Global.{Global}
use Rattle.std.specs.declared.alloc.AllocError.{AllocError}
use Rattle.bsc_table.specs.Record.{Record}
use Rattle.cbch_blocks.specs.RecordBlocks.{tape_of_record}
use Rattle.handset.specs.Tape.{IsTape, TapeReading, reading_of}
use Rattle.handset.specs.declared.tape.Reading.{Reading}
use Rattle.report.specs.declared.row.Row.{Row}
use Rattle.warnc_run.specs.Products.{own_rows, reading_of_record}

-- the tape of a record is one of which a handset reads what its blocks show
abbrev pub HasOwnTape : Record → Type 0
HasOwnTape r = IsTape (tape_of_record r) (reading_of_record r)

-- what came of the records, of each the rows, or the reading, or that memory was refused
abbrev pub RowsMade : Type 0
RowsMade = Result (Vec Row Global) AllocError

abbrev pub ReadingMade : Type 0
ReadingMade = Result Reading AllocError

abbrev pub rows_in : RowsMade → List Row
rows_in (Ok rows) = rows.items
rows_in (Err refused) = []

abbrev pub readings_in : ReadingMade → List TapeReading
readings_in (Ok reading) = reading_of reading ∷ []
readings_in (Err refused) = []

-- they are those of the record at a place
abbrev pub AreRowsAt : List Record → (place : ℕ) → RowsMade → Type 0
AreRowsAt records place made = IfOk made (λ rows. (d : Record) → HasOwnTape (slice_index_or records place d)
    → rows.items ≡ own_rows (slice_index_or records place d ∷ []))

abbrev pub IsReadingAt : List Record → (place : ℕ) → ReadingMade → Type 0
IsReadingAt records place made = IfOk made (λ reading. (d : Record) → HasOwnTape (slice_index_or records place d)
    → reading_of reading ≡ reading_of_record (slice_index_or records place d))

-- of all records
pub record AreAllRows (records : List Record) (all : List RowsMade) : Type 0 where
  pub count : length all ≡ length records
  pub each : (place : ℕ) (d : RowsMade) → place < length all → AreRowsAt records place (slice_index_or all place d)

pub record AreAllReadings (records : List Record) (all : List ReadingMade) : Type 0 where
  pub count : length all ≡ length records
  pub each : (place : ℕ) (d : ReadingMade) → place < length all
      → IsReadingAt records place (slice_index_or all place d)

-- memory was refused for none
abbrev pub WasMade : {X : Type 0} → Result X AllocError → Type 0
WasMade (Ok made) = ⊤
WasMade (Err refused) = ⊥
