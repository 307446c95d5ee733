-- What `warnc tape --all` makes of a table of cells and of a capture file: the tape of each cell, one after the other,
-- as `warnc tape` makes each. Own.
use Rattle.std.specs.Prelude.{◌≡◌, ◌≢◌, ⊤, ℕ, ◌+◌, ◌<◌, ◌≤◌, List, Option, IfSome, length, map}
use Rattle.std.specs.Io.KnownBytes.{Appends, Consumes, IsAtEnd}
use Rattle.device_ends.specs.Moves.{AppendsFront}
use Rattle.device_ends.specs.Source.{reader_of}
use Rattle.device_ends.specs.declared.reading.Source.{Source}
use Rattle.gsmtap.specs.TapesOfCapture.{AreTapesOfCapture, IsTapesFault}
use Rattle.gsmtap.specs.declared.fault.AirFaultKind.TheVariants as kind
use Rattle.gsmtap.specs.declared.tape.Wanted.{Wanted}
use Rattle.gsmtap.specs.declared.tapes.TapesFault.{TapesFault}
use Rattle.gsmtap.specs.declared.tapes.TapesFault.TheVariants as tapes
use Rattle.warnc_air.specs.CellTable.{IsCellTable, IsTableFault, max_table}
use Rattle.warnc_air.specs.TapeOutput.{max_capture}
use Rattle.warnc_air.specs.declared.all.AllTapesFault.{AllTapesFault}
use Rattle.warnc_air.specs.declared.all.AllTapesFault.TheVariants as faults
use Rattle.warnc_air.specs.declared.all.AllWanted.{AllWanted}
use Rattle.warnc_air.specs.declared.cell_table.CellRow.{CellRow}
use Rattle.warnc_air.specs.declared.cell_table.TableFault.{TableFault}

-- which tape is wanted of a row's cell
abbrev pub wanted_of : AllWanted → CellRow → Wanted
wanted_of all row = record {
  cell = row.cell;
  slots = all.slots;
  first_slot = all.first_slot;
  from = record { address = row.address; arfcn = row.arfcn; channel = all.channel };
}

abbrev pub all_wanted : AllWanted → List CellRow → List Wanted
all_wanted all rows = map (wanted_of all) rows

-- what the readers of the table and of the capture have left before and after a call
pub record Readers : Type 0 where
  pub table_first : Option (List ℕ)
  pub table_last : Option (List ℕ)
  pub capture_first : Option (List ℕ)
  pub capture_last : Option (List ℕ)

abbrev pub readers_of : {C R : Type 0} → (table_left : C → Option (List ℕ)) → (left : R → Option (List ℕ))
    → (table_first table_last : Source C) → (first last : Source R) → Readers
readers_of table_left left table_first table_last first last = record {
  table_first = table_left (reader_of table_first);
  table_last = table_left (reader_of table_last);
  capture_first = left (reader_of first);
  capture_last = left (reader_of last);
}

-- a reader gave all octets that it had left, no more than a bound, and this is so of them
pub record ReadsWith (most : ℕ) (IsSo : List ℕ → Type 0) (old new : Option (List ℕ)) : Type 0 where
  pub octets : List ℕ
  pub all : IfSome old (λ input. input ≡ octets)
  pub consumed : Consumes old new octets
  pub ended : IsAtEnd new
  pub bounded : length octets ≤ most
  pub so : IsSo octets

-- it had more left than a bound
abbrev pub HadMore : (most : ℕ) → (old : Option (List ℕ)) → Type 0
HadMore most old = IfSome old (λ input. most < length input)

-- the table was read to its end, and has these cells, or a fault
abbrev pub ReadsTable : List CellRow → (old new : Option (List ℕ)) → Type 0
ReadsTable rows old new = ReadsWith max_table (λ table. IsCellTable table rows) old new

abbrev pub RefusesTable : TableFault → (old new : Option (List ℕ)) → Type 0
RefusesTable why old new = ReadsWith max_table (λ table. IsTableFault table why) old new

-- the capture was read to its end, and has the tapes of these cells, or not
abbrev pub MakesTapes : AllWanted → List CellRow → (output : List ℕ) → (old new : Option (List ℕ)) → Type 0
MakesTapes all rows output old new =
    ReadsWith max_capture (λ capture. AreTapesOfCapture (all_wanted all rows) capture output) old new

abbrev pub RefusesTapes : AllWanted → List CellRow → TapesFault → (old new : Option (List ℕ)) → Type 0
RefusesTapes all rows why old new =
    ReadsWith max_capture (λ capture. IsTapesFault (all_wanted all rows) capture why) old new

-- the table was read and has cells, of which this is so
pub record HasTableWith (ends : Readers) (IsSo : List CellRow → Type 0) : Type 0 where
  pub rows : List CellRow
  pub table : ReadsTable rows ends.table_first ends.table_last
  pub so : IsSo rows

-- both were read, and the output is the tapes of the cells
abbrev pub IsAllTapes : AllWanted → Readers → (output : List ℕ) → Type 0
IsAllTapes all ends output =
    HasTableWith ends (λ rows. MakesTapes all rows output ends.capture_first ends.capture_last)

-- all tapes were written, or a front of them
abbrev pub WritesTapes : AllWanted → Readers → (old new : Option (List ℕ)) → Type 0
WritesTapes all ends old new = (output : List ℕ) × IsAllTapes all ends output × Appends old new output

abbrev pub WritesTapesFront : AllWanted → Readers → (old new : Option (List ℕ)) → Type 0
WritesTapesFront all ends old new = (output : List ℕ) × IsAllTapes all ends output × AppendsFront old new output

-- why a capture hasn't the tapes of these cells. The row of a tape without a block is two more than the tape's place,
-- since the first row names the columns
abbrev pub IsCaptureFault : AllWanted → List CellRow → (old new : Option (List ℕ)) → AllTapesFault → Type 0
IsCaptureFault all rows old new faults.ReadFailed = ⊤
IsCaptureFault all rows old new faults.TooLong = HadMore max_capture old
IsCaptureFault all rows old new (faults.Air why) =
    RefusesTapes all rows (tapes.Air why) old new × (why.kind ≢ kind.Refused)
IsCaptureFault all rows old new (faults.NoBlock row) =
    (place : ℕ) × RefusesTapes all rows (tapes.NoBlock place) old new × (row ≡ place + 2)
IsCaptureFault all rows old new faults.Refused = ⊤
IsCaptureFault all rows old new other = ⊥

-- the table was read and has cells, of which the capture hasn't the tapes
abbrev pub HasCaptureFault : AllWanted → Readers → AllTapesFault → Type 0
HasCaptureFault all ends fault =
    HasTableWith ends (λ rows. IsCaptureFault all rows ends.capture_first ends.capture_last fault)

-- why the tapes aren't written: the table is too long or has a fault; or it has none, and the capture is too long or
-- has one; or memory ran out, or a device failed
abbrev pub IsAllTapesFault : AllWanted → Readers → (old new : Option (List ℕ)) → AllTapesFault → Type 0
IsAllTapesFault all ends old new faults.TableReadFailed = ⊤
IsAllTapesFault all ends old new faults.TableTooLong = HadMore max_table ends.table_first
IsAllTapesFault all ends old new (faults.Table why) = RefusesTable why ends.table_first ends.table_last
IsAllTapesFault all ends old new faults.ReadFailed = HasCaptureFault all ends faults.ReadFailed
IsAllTapesFault all ends old new faults.TooLong = HasCaptureFault all ends faults.TooLong
IsAllTapesFault all ends old new (faults.Air why) = HasCaptureFault all ends (faults.Air why)
IsAllTapesFault all ends old new (faults.NoBlock row) = HasCaptureFault all ends (faults.NoBlock row)
IsAllTapesFault all ends old new faults.Refused = ⊤
IsAllTapesFault all ends old new faults.WriteFailed = WritesTapesFront all ends old new

-- a fault that comes before the capture is read
abbrev pub IsOfTable : AllTapesFault → Type 0
IsOfTable faults.TableReadFailed = ⊤
IsOfTable faults.TableTooLong = ⊤
IsOfTable (faults.Table why) = ⊤
IsOfTable other = ⊥

-- the fault of a failed writer
abbrev pub IsUnwritten : AllTapesFault → Type 0
IsUnwritten f = f ≡ faults.WriteFailed
