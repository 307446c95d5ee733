use Rattle.std.proofs.Common.{◌≡◌, length, inr, refl, rules}
use Rattle.std.proofs.lemmas.List.{nil_from_length}
use Rattle.warnc_air.specs.CellTable.{fault_at}
use Rattle.warnc_air.specs.CellTableSteps.{so_far_of}
use Rattle.warnc_air.specs.declared.cell_table.TableFaultKind.TheVariants as kinds
use Rattle.warnc_air.proofs.cell_table.cells_in.Goals as goal

pub returns-in-None-clause-err : goal.returns-in-None-clause-err
returns-in-None-clause-err c = inr (
  fault_at 1 kinds.Columns,
  inr record {
    known = so_far_of c.in_ok-table.table;
    is = c.in_ok-table.ensures.ok;
    missing = rw c.in-None.is refl;
  },
  c.fault_of_row.ensures,
)

pub returns-in-Some-clause-err : goal.returns-in-Some-clause-err
returns-in-Some-clause-err c =
    let none : length c.in_ok-table.table.rows.items ≡ 0 = search (rules, c.is_empty.ensures, c.if-is_empty.true) in
    inr (
      fault_at 2 kinds.NoRow,
      inr record {
        known = so_far_of c.in_ok-table.table;
        is = c.in_ok-table.ensures.ok;
        missing = rw c.in-Some.is (nil_from_length c.in_ok-table.table.rows.items none, refl);
      },
      c.fault_of_row-in-Some.ensures,
    )
