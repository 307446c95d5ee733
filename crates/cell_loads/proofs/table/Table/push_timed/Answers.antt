use Rattle.std.proofs.Common.{◌≡◌, [], ◌∷◌, Some, rules}
use Rattle.cell_loads.specs.LoadsText.{line, share_line}
use Rattle.cell_loads.proofs.table.Table.push_timed.Goals as goal

pub returns : goal.returns
returns c =
    let fields : line (c.as_bytes.result.now ∷ c.as_bytes-2.result.now ∷ c.as_bytes-3.result.now ∷
    c.as_bytes-4.result.now ∷ c.mark.result.now ∷ c.slot_time-time.result ∷ [])
    ≡ share_line (Some c.args.start) c.args.cell c.args.slot c.args.share c.args.is_fullest = search rules in
    rw (← fields) c.push_line.ensures
