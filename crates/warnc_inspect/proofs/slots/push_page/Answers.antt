use Rattle.std.proofs.Common.{◌≡◌, ◌/◌, ◌%◌, [], ◌∷◌, rules, refl}
use Rattle.std.specs.Fmt.{decimal}
use Rattle.hex.specs.Hex.{encode_lower}
use Rattle.warnc_inspect.specs.ReadOutput.{csv_row}
use Rattle.warnc_inspect.specs.SlotsOutput.{slot_row}
use Rattle.warnc_inspect.proofs.slots.push_page.Goals as goal

pub returns : goal.returns
returns c =
    let page = c.args.page.now in
    let lac : c.as_bytes.result.now ≡ decimal c.args.cell.lac = search rules in
    let ci : c.as_bytes-2.result.now ≡ decimal c.args.cell.ci = search rules in
    let slot : c.as_bytes-3.result.now ≡ decimal c.args.slot = search rules in
    let id : c.as_bytes-4.result.now ≡ decimal page.id = search rules in
    let number : c.as_bytes-5.result.now ≡ decimal page.number = search rules in
    let total : c.as_bytes-6.result.now ≡ decimal page.total = search rules in
    let serial : c.serial_digits-serial.result ≡ encode_lower ((page.serial / 256) ∷ (page.serial % 256) ∷ []) =
    search rules in
    let fields : csv_row (c.as_bytes.result.now ∷ c.as_bytes-2.result.now ∷ c.as_bytes-3.result.now ∷
    c.as_bytes-4.result.now ∷ c.serial_digits-serial.result ∷ c.as_bytes-5.result.now ∷ c.as_bytes-6.result.now ∷ [])
    ≡ slot_row c.args.cell c.args.slot page = rw (lac, ci, slot, id, number, total, serial) refl in
    rw (← fields) c.push_row.ensures
