use Rattle.std.proofs.Common.{◌∙◌, rules}
use Rattle.csv.specs.Records.{fields_of}
use Rattle.alert_book.proofs.RowLaws.{update_is}
use Rattle.alert_book.proofs.book.row.update_row.Goals as goal

pub returns-in_err-meant-clause-err : goal.returns-in_err-meant-clause-err
returns-in_err-meant-clause-err g c =
    let is = update_is c.args.row (g.D.Declared.field_cells c.args.declared.now) c.args.orders.now
    (fields_of c.args.fields.now) c.in_ok-at.at
    c.in_ok-first.first.now c.in_ok-sending.sending c.column-name.result.now c.count_of_updates-earlier.result
    (search rules) (search rules) (search rules) (search rules) (search rules) in
    rw is (search rules)

pub returns-clause-ok : goal.returns-clause-ok
returns-clause-ok g c =
    let is = update_is c.args.row (g.D.Declared.field_cells c.args.declared.now) c.args.orders.now
    (fields_of c.args.fields.now) c.in_ok-at.at
    c.in_ok-first.first.now c.in_ok-sending.sending c.column-name.result.now c.count_of_updates-earlier.result
    (search rules) (search rules) (search rules) (search rules) (search rules) in
    is ∙ c.in_ok-meant.ensures.ok
