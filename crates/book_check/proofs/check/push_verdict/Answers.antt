use Rattle.std.proofs.Common.{◌≡◌, rules}
use Rattle.csv.specs.Records.{fields_of}
use Rattle.book_check.specs.Told.{fault_row, told_of_row}
use Rattle.book_check.proofs.check.push_verdict.Goals as goal

pub returns-in_ok-says-in-Wrong : goal.returns-in_ok-says-in-Wrong
returns-in_ok-says-in-Wrong c =
    let row : fault_row c.args.place.row c.args.place.line c.in-Wrong.found.column (fields_of c.args.fields.now)
    c.deref.result.now
    ≡ told_of_row c.args.place.row c.args.place.line c.args.judge.now (fields_of c.args.fields.now) c.args.verdict =
    rw c.in-Wrong.is (search rules) in
    rw (← row) c.push_fault.ensures

pub returns-in_ok-says-in-Unsendable : goal.returns-in_ok-says-in-Unsendable
returns-in_ok-says-in-Unsendable c =
    let row : fault_row c.args.place.row c.args.place.line c.place_of_text-column.result (fields_of c.args.fields.now)
    c.deref-in-Unsendable.result.now
    ≡ told_of_row c.args.place.row c.args.place.line c.args.judge.now (fields_of c.args.fields.now) c.args.verdict =
    rw c.in-Unsendable.is (search rules) in
    rw (← row) c.push_fault-in-Unsendable.ensures
