use Rattle.std.proofs.Common.{◌≡◌, ◌∙◌, [], ◌∷◌, ◌++◌, ap, rules}
use Rattle.report.specs.ReportText.{full_fields, line, order_name, order_row, time_fields}
use Rattle.report.specs.Sources.{order_of}
use Rattle.report.specs.declared.row.Columns.TheVariants.{Full}
use Rattle.report.proofs.table.Table.push_full_timed.Goals as goal

pub returns : goal.returns
returns c =
    let row_is : c.order_row.result.now ≡ order_row (order_of c.args.orders.now c.args.row.now) =
    c.order_row.ensures ∙ ap order_row c.of_row-order.ensures in
    let name_is : c.order_name.result.now ≡ order_name (order_of c.args.orders.now c.args.row.now) =
    c.order_name.ensures ∙ ap order_name c.of_row-order.ensures in
    let fields : (c.order_row.result.now ∷ c.order_name.result.now ∷ c.as_bytes.result.now ∷
    c.as_bytes-2.result.now ∷ c.as_bytes-3.result.now ∷
    c.serial_text-serial.result ∷ c.as_bytes-4.result.now ∷ c.as_bytes-5.result.now ∷ c.as_bytes-6.result.now ∷
    c.args.shown.now ∷ c.number_or_none.result.now ∷ c.number_or_none-2.result.now ∷ c.number_or_none-3.result.now ∷
    c.number_or_none-4.result.now ∷ c.args.cause.now ∷ c.slot_time-start_time.result ∷ c.slot_time-end_time.result ∷
    c.shown_time.result.now ∷ [])
    ≡ full_fields c.args.orders.now c.args.row.now ++ time_fields Full c.args.start c.args.row.now =
    search (rules, row_is, name_is) in
    rw (← ap line fields) c.push_line.ensures
