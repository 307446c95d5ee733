use Rattle.std.proofs.Common.{◌≡◌, ◌∙◌, List, Some, ap, length, subst}
use Rattle.csv.specs.Records.{fields_of}
use Rattle.alert_book.specs.declared.book.order.Order.{Order}
use Rattle.alert_book.specs.Judging.{name_written, Counted}
use Rattle.alert_book.specs.JudgingSteps.{IsWithin}
use Rattle.alert_book.proofs.JudgedLaws.{name_has_room}
use Rattle.alert_book.proofs.judging.Judge.count_wrong.Goals as goal

pub add-requires-clause-room : goal.add-requires-clause-room
add-requires-clause-room c =
    let before = c.args.self.now in
    let fields = fields_of c.args.fields.now in
    let name : Some c.in-Some.name.now ≡ name_written before.known.orders fields =
    rw c.in-Some.is at c.name_written.ensures
    ∙ ap (λ (os : List Order). name_written os fields)
    (c.deref.ensures.value ∙ ap (λ (b : Counted). b.known.orders) c.self.view_is) in
    name_has_room before fields c.in-Some.name.now
    (subst (λ (b : Counted). IsWithin b.bounds b.rows (length b.known.orders)) c.self.view_is c.self.invariant.2)
    c.requires name
