-- Steps of `read` (own): what a table holds as it is written, and as which fault a fault of tapes is reported. No
-- contract of a public function speaks of it.
use Rattle.std.specs.Prelude.{◌≡◌, ℕ, List, Option, Some, IfSome, false}
use Rattle.csv.specs.Writing.{default_writer, fields_written, has_written, text_written, writer_setup}
use Rattle.handset.specs.Tape.{TapeReading}
use Rattle.handset.specs.declared.tape.TapeFault.{TapeFault}
use Rattle.handset.specs.declared.tape.TapeFault.TheVariants as tape
use Rattle.warnc_inspect.specs.ReadOutput.{AreReadings, table_of}
use Rattle.short_pages.specs.declared.pages.Pages.{Pages}
use Rattle.warnc_inspect.specs.declared.read.ReadCommandFault.{ReadCommandFault}
use Rattle.warnc_inspect.specs.declared.read.ReadCommandFault.TheVariants as fault
use Rattle.warnc_inspect.specs.declared.table.Table.{Table}

-- the table has these octets, and the last of its rows is ended
pub record IsTable (table : Table) (octets : List ℕ) : Type 0 where
  pub text : text_written (λ v. Some v.items) table.writer.value ≡ Some octets
  pub setup : writer_setup table.writer.value ≡ default_writer
  pub ended : fields_written table.writer.value ≡ 0
  pub clean : has_written table.writer.value ≡ false

-- the fault that a fault of tapes is reported as, name by name as in the code
abbrev pub fault_of_tapes : TapeFault → ReadCommandFault
fault_of_tapes tape.Short = fault.Short
fault_of_tapes tape.Long = fault.Long
fault_of_tapes tape.ReadFailed = fault.ReadFailed
fault_of_tapes tape.Refused = fault.Refused

-- the table of what the tapes of an input show; of some octets' tapes, where the input isn't known
pub record IsTableOf (wanted : Pages) (input : Option (List ℕ)) (table : Table) : Type 0 where
  pub readings : List TapeReading
  pub of_input : IfSome input (λ octets. AreReadings wanted octets readings)
  pub of_some : (octets : List ℕ) × AreReadings wanted octets readings
  pub holds : IsTable table (table_of readings)
