use Rattle.std.proofs.Common.{◌≡◌, [], ◌∷◌, rules}
use Rattle.book_remarks.specs.RemarksText.{line}
use Rattle.book_remarks.proofs.table.Table.push_untimed_of_group.Goals as goal

pub returns : goal.returns
returns c =
    let fields : line (c.as_bytes.result.now ∷ c.as_bytes-2.result.now ∷ c.as_bytes-3.result.now ∷
    c.as_bytes-4.result.now ∷ c.as_bytes-5.result.now ∷ [])
    ≡ line (c.args.group.now ∷ c.args.row.now ∷ c.args.name.now ∷ c.args.cell.now ∷ c.args.says.now ∷ [])
    = search rules in
    rw (← fields) c.push_line.ensures
