use Rattle.std.proofs.Common.{◌≡◌, [], ◌∷◌, rules}
use Rattle.csv.specs.Records.{fields_of}
use Rattle.book_check.specs.Told.{csv_row, fault_row}
use Rattle.book_check.proofs.check.push_fault.Goals as goal

pub returns : goal.returns
returns c =
    let fields : csv_row (c.format.result.now ∷ c.format-2.result.now ∷ c.format-3.result.now ∷
    c.field_name-name.result.now ∷ c.deref.result.now ∷ c.args.says.now ∷ [])
    ≡ fault_row c.args.place.row c.args.place.line c.args.column (fields_of c.args.fields.now) c.args.says.now =
    search rules in
    rw (← fields) c.push_fault.ensures
