use Rattle.std.proofs.Common.{◌≡◌, [], ◌∷◌, rules}
use Rattle.book_check.specs.Told.{csv_row}
use Rattle.book_check.proofs.table.Table.push_fault.Goals as goal

pub returns : goal.returns
returns c =
    let fields : csv_row (c.as_bytes.result.now ∷ c.as_bytes-2.result.now ∷ c.as_bytes-3.result.now ∷
    c.as_bytes-4.result.now ∷ c.args.value.now ∷ c.as_bytes-5.result.now ∷ [])
    ≡ csv_row (c.args.row.now ∷ c.args.line.now ∷ c.args.column.now ∷ c.args.name.now ∷ c.args.value.now ∷
    c.args.says.now ∷ []) = search rules in
    rw (← fields) c.push_row.ensures
