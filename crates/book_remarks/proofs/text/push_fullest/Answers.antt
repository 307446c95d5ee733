use Rattle.std.proofs.Common.{◌≡◌, [], ◌∷◌, ◌++◌, Some, rules}
use Rattle.book_remarks.specs.RemarksText.{fullest_line, group_field, line, time_field}
use Rattle.book_remarks.proofs.text.push_fullest.Goals as goal

pub returns : goal.returns
returns c =
    let fields : line (group_field c.args.group ++ [] ∷ [] ∷ c.deref.result.now ∷ c.deref-2.result.now
    ∷ time_field c.args.start (Some c.in_ok-fullest.fullest.slot))
    ≡ fullest_line c.args.group c.args.start c.args.run.now = search rules in
    rw (← fields) c.push_fields.ensures
