-- What a table holds as it is written (own). The contracts of private functions alone speak of it.
use Rattle.std.specs.Prelude.{◌≡◌, ℕ, List, Some, false}
use Rattle.csv.specs.Writing.{default_writer, fields_written, has_written, text_written, writer_setup}
use Rattle.cell_loads.specs.declared.table.Table.{Table}

-- the table has these octets, and the last of its lines is ended
pub record IsTable (table : Table) (octets : List ℕ) : Type 0 where
  pub text : text_written (λ v. Some v.items) table.writer.value ≡ Some octets
  pub setup : writer_setup table.writer.value ≡ default_writer
  pub ended : fields_written table.writer.value ≡ 0
  pub clean : has_written table.writer.value ≡ false
