use Rattle.std.proofs.Common.{◌≡◌, [], ◌∷◌, rules}
use Rattle.std.specs.Fmt.{decimal}
use Rattle.book_remarks.specs.RemarksText.{line, time_field, time_text}
use Rattle.book_remarks.proofs.table.Table.push_of_group.Goals as goal

pub returns-in-None : goal.returns-in-None
returns-in-None c =
    let fields : line (c.format-number.result.now ∷ c.args.row.now ∷ c.args.name.now ∷ c.args.cell.now
    ∷ c.args.says.now ∷ [])
    ≡ line (decimal c.args.group ∷ c.args.row.now ∷ c.args.name.now ∷ c.args.cell.now ∷ c.args.says.now
    ∷ time_field c.args.start c.args.slot) = search rules in
    rw (← fields) c.push_untimed_of_group.ensures

pub returns-in-Some : goal.returns-in-Some
returns-in-Some c =
    let fields : line (c.format-number.result.now ∷ c.args.row.now ∷ c.args.name.now ∷ c.args.cell.now
    ∷ c.args.says.now ∷ time_text c.in-Some.start c.args.slot ∷ [])
    ≡ line (decimal c.args.group ∷ c.args.row.now ∷ c.args.name.now ∷ c.args.cell.now ∷ c.args.says.now
    ∷ time_field c.args.start c.args.slot) = search rules in
    rw (← fields) c.push_timed_of_group.ensures
