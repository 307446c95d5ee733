use Rattle.std.proofs.Common.{◌≡◌, [], ◌∷◌, None, rules}
use Rattle.cell_loads.specs.LoadsText.{line, share_line}
use Rattle.cell_loads.proofs.table.Table.push_untimed.Goals as goal

pub returns : goal.returns
returns c =
    let fields : line (c.as_bytes.result.now ∷ c.as_bytes-2.result.now ∷ c.as_bytes-3.result.now ∷
    c.as_bytes-4.result.now ∷ c.mark.result.now ∷ [])
    ≡ share_line None c.args.cell c.args.slot c.args.share c.args.is_fullest = search rules in
    rw (← fields) c.push_line.ensures
