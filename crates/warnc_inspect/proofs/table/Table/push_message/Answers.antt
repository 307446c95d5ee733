use Rattle.std.proofs.Common.{◌≡◌, [], ◌∷◌, rules}
use Rattle.handset.specs.Keeping.{message_shown}
use Rattle.warnc_inspect.specs.ReadOutput.{csv_row, row_of_message}
use Rattle.warnc_inspect.proofs.table.Table.push_message.Goals as goal

pub returns : goal.returns
returns c =
    let fields : csv_row (c.as_bytes.result.now ∷ c.as_bytes-2.result.now ∷ c.as_bytes-3.result.now ∷
    c.serial_digits-serial.result ∷ c.as_bytes-4.result.now ∷ [])
    ≡ row_of_message c.args.lac.now c.args.ci.now (message_shown c.args.message.now) = search rules in
    rw (← fields) c.push_row.ensures
