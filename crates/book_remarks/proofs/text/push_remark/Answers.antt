use Rattle.std.proofs.Common.{◌≡◌, [], ◌∷◌, ◌++◌, None, codes, rules}
use Rattle.book_remarks.specs.RemarksText.{group_field, line, remark_line, time_field}
use Rattle.book_remarks.proofs.text.push_remark.Goals as goal

pub returns-in_ok-said-in-OfOrder : goal.returns-in_ok-said-in-OfOrder
returns-in_ok-said-in-OfOrder c =
    let fields : line (group_field c.args.group ++ c.format.result.now ∷ c.as_str.result.now ∷ [] ∷ c.deref.result.now
    ∷ time_field c.args.start c.slot_said-slot.result)
    ≡ remark_line c.args.group c.args.start c.args.remark.now = search rules in
    rw (← fields) c.push_fields.ensures

pub returns-in_ok-name-in-NothingIn : goal.returns-in_ok-name-in-NothingIn
returns-in_ok-name-in-NothingIn c =
    let fields : line (group_field c.args.group ++ [] ∷ [] ∷ c.deref-in-NothingIn.result.now ∷ codes "gets nothing"
    ∷ time_field c.args.start None)
    ≡ remark_line c.args.group c.args.start c.args.remark.now = search rules in
    rw (← fields) c.push_fields-in-NothingIn.ensures
