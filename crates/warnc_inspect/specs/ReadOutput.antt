-- What `warnc read` makes of the octets that it reads: a table of what the tapes show, as CSV. Own.
use Rattle.std.specs.Prelude.{◌≡◌, ℕ, ◌/◌, ◌%◌, ◌⊎◌, List, [], ◌∷◌, ◌++◌, Option, codes}
use Rattle.std.specs.Fmt.{decimal}
use Rattle.std.specs.Io.KnownBytes.{IsAtEnd, Keeps}
use Rattle.std.specs.List.{flat_map}
use Rattle.csv.specs.Writing.{default_writer, row_text}
use Rattle.hex.specs.Hex.{encode_lower}
use Rattle.device_ends.specs.Moves.{AppendsFront}
use Rattle.handset.specs.Reception.{ShownMessage}
use Rattle.handset.specs.Tape.{TapeReading, AreTapes, IsShort, IsLong, max_tapes}
use Rattle.handset.specs.TapeExtent.{StopsAt}
use Rattle.handset.specs.declared.tape.TapeFault.TheVariants as tape
use Rattle.short_pages.specs.Slots.{AreReadingsOnAir}
use Rattle.short_pages.specs.declared.pages.Pages.{Pages}
use Rattle.short_pages.specs.declared.pages.Pages.TheVariants as pages
use Rattle.warnc_inspect.specs.declared.read.ReadCommandFault.{ReadCommandFault}
use Rattle.warnc_inspect.specs.declared.read.ReadCommandFault.TheVariants as fault

-- a row of the table, as CSV quotes its fields
abbrev pub csv_row : List (List ℕ) → List ℕ
csv_row fields = row_text default_writer fields

-- the first row has the names of the columns
abbrev pub header_row : List ℕ
header_row = csv_row (codes "lac" ∷ codes "ci" ∷ codes "id" ∷ codes "serial" ∷ codes "text" ∷ [])

-- the row of a message that a cell showed, after the digits of the cell's numbers: its identifier is decimal, its
-- serial number has four lower hexadecimal digits
abbrev pub row_of_message : (lac ci : List ℕ) → ShownMessage → List ℕ
row_of_message lac ci message =
    csv_row (lac ∷ ci ∷ decimal message.id ∷ encode_lower ((message.serial / 256) ∷ (message.serial % 256) ∷ []) ∷
    message.text ∷ [])

-- the numbers of the cell are decimal
abbrev pub shown_row : (lac ci : ℕ) → ShownMessage → List ℕ
shown_row lac ci message = row_of_message (decimal lac) (decimal ci) message

-- the rows of what a tape shows, in the order in which it is shown
abbrev pub reading_rows : TapeReading → List ℕ
reading_rows reading = flat_map (shown_row reading.cell.lac reading.cell.ci) reading.shown

-- the table of what tapes show, in their order
abbrev pub table_of : List TapeReading → List ℕ
table_of readings = header_row ++ flat_map reading_rows readings

-- what the tapes of an input show: by their pages of four blocks alone, or by all pages, of one to four blocks
abbrev pub AreReadings : Pages → (input : List ℕ) → List TapeReading → Type 0
AreReadings pages.OfFour = AreTapes
AreReadings pages.OfAny = AreReadingsOnAir

-- what is written for the octets that were read: they are whole tapes, and this is the table of what these show
pub record IsReadOutput (wanted : Pages) (input output : List ℕ) : Type 0 where
  pub readings : List TapeReading
  pub tapes : AreReadings wanted input readings
  pub written : output ≡ table_of readings

-- why no output of tapes is written, out of memory and devices aside; after a fault of the writer a front of the output
-- was written, and after any other fault nothing
abbrev pub IsFaultOf : (IsOutput : (input output : List ℕ) → Type 0) (input : List ℕ) (old new : Option (List ℕ))
    → ReadCommandFault → Type 0
IsFaultOf IsOutput input old new fault.Short = IsShort input × Keeps old new
IsFaultOf IsOutput input old new fault.Long = IsLong input × Keeps old new
IsFaultOf IsOutput input old new fault.ReadFailed = Keeps old new
IsFaultOf IsOutput input old new fault.Refused = Keeps old new
IsFaultOf IsOutput input old new fault.WriteFailed =
    (output : List ℕ) × IsOutput input output × AppendsFront old new output

-- why no table is written
abbrev pub IsReadFault : Pages → (input : List ℕ) (old new : Option (List ℕ)) → ReadCommandFault → Type 0
IsReadFault wanted = IsFaultOf (IsReadOutput wanted)

-- how far the input was read when no table is written, by the fault: as the reading of tapes says, and nothing after it
abbrev pub IsReadTo : (old new : Option (List ℕ)) → ReadCommandFault → Type 0
IsReadTo old new fault.Short = StopsAt max_tapes old new tape.Short
IsReadTo old new fault.Long = StopsAt max_tapes old new tape.Long
IsReadTo old new fault.ReadFailed = StopsAt max_tapes old new tape.ReadFailed
IsReadTo old new fault.Refused = StopsAt max_tapes old new tape.Refused ⊎ IsAtEnd new
IsReadTo old new fault.WriteFailed = IsAtEnd new

-- the fault of a failed writer
abbrev pub IsReadWriteFault : ReadCommandFault → Type 0
IsReadWriteFault f = f ≡ fault.WriteFailed
