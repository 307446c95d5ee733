use Rattle.std.proofs.Common.{◌≡◌, ◌∙◌, [], ◌∷◌, ap, rules}
use Rattle.report.specs.ReportText.{full_fields, line, order_name, order_row}
use Rattle.report.specs.Sources.{order_of}
use Rattle.report.proofs.table.Table.push_full_shown.Goals as goal

pub returns : goal.returns
returns c =
    let row_is : c.order_row.result.now ≡ order_row (order_of c.args.orders.now c.args.row.now) =
    c.order_row.ensures ∙ ap order_row c.of_row-order.ensures in
    let name_is : c.order_name.result.now ≡ order_name (order_of c.args.orders.now c.args.row.now) =
    c.order_name.ensures ∙ ap order_name c.of_row-order.ensures in
    let fields : (c.order_row.result.now ∷ c.order_name.result.now ∷ c.as_bytes.result.now ∷
    c.as_bytes-2.result.now ∷ c.as_bytes-3.result.now ∷
    c.serial_text-serial.result ∷ c.as_bytes-4.result.now ∷ c.as_bytes-5.result.now ∷ c.as_bytes-6.result.now ∷
    c.args.shown.now ∷ c.number_or_none.result.now ∷ c.number_or_none-2.result.now ∷ c.number_or_none-3.result.now ∷
    c.number_or_none-4.result.now ∷ c.args.cause.now ∷ [])
    ≡ full_fields c.args.orders.now c.args.row.now = search (rules, row_is, name_is) in
    rw (← ap line fields) c.push_line.ensures
