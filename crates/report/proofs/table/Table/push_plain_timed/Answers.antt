use Rattle.std.proofs.Common.{◌≡◌, [], ◌∷◌, ◌++◌, rules}
use Rattle.report.specs.ReportText.{line, plain_fields, time_fields}
use Rattle.report.specs.declared.row.Columns.TheVariants.{Plain}
use Rattle.report.proofs.table.Table.push_plain_timed.Goals as goal

pub returns : goal.returns
returns c =
    let fields : line (c.as_bytes.result.now ∷ c.as_bytes-2.result.now ∷ c.as_bytes-3.result.now ∷
    c.serial_text-serial.result ∷ c.as_bytes-4.result.now ∷ c.as_bytes-5.result.now ∷ c.as_bytes-6.result.now ∷
    c.args.shown.now ∷ c.slot_time-start_time.result ∷ c.slot_time-end_time.result ∷ [])
    ≡ line (plain_fields c.args.row.now ++ time_fields Plain c.args.start c.args.row.now) = search rules in
    rw (← fields) c.push_line.ensures
