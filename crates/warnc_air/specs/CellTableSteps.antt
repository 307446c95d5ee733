-- Steps over the rows of a table of cells. Contracts of private functions alone speak of it.
use Rattle.std.specs.Prelude.{◌≡◌, ◌⊎◌, ℕ, List, Err}
use Rattle.warnc_air.specs.CellTable.{IsTableFault, TableSoFar, fault_at, so_far, with_record}
use Rattle.warnc_air.specs.declared.all.AllTapesFault.{AllTapesFault}
use Rattle.warnc_air.specs.declared.all.AllTapesFault.TheVariants as faults
use Rattle.warnc_air.specs.declared.cell_table.CellTable.{CellTable}
use Rattle.warnc_air.specs.declared.cell_table.TableFault.{TableFault}
use Rattle.warnc_air.specs.declared.cell_table.TableFaultKind.{TableFaultKind}

abbrev pub so_far_of : CellTable → TableSoFar
so_far_of table = so_far table.columns table.rows.items

-- why the row of this number isn't taken: it has a fault after those before it, or memory was refused
abbrev pub IsRowFault : (row : ℕ) → TableSoFar → (fields : List (List ℕ)) → AllTapesFault → Type 0
IsRowFault row known fields fault =
    (fault ≡ faults.Refused)
    ⊎ ((kind : TableFaultKind) × (with_record known fields ≡ Err kind) × (fault ≡ faults.Table (fault_at row kind)))

-- why a table isn't taken
abbrev pub IsReadingFault : (input : List ℕ) → AllTapesFault → Type 0
IsReadingFault input fault =
    (fault ≡ faults.Refused) ⊎ ((why : TableFault) × IsTableFault input why × (fault ≡ faults.Table why))
