use Rattle.std.proofs.Common.{◌≡◌, ℕ, Some, Err, subst, sym, ap, ◌∙◌}
use Rattle.std.proofs.lemmas.Bool.{false≢true}
use Rattle.admission.specs.declared.budget.NoRoom.{NoRoom}
use Rattle.scheduler.specs.Completed.{completed}
use Rattle.bsc_table.specs.declared.entry.Answer.TheVariants as answers
use Rattle.bsc_table.specs.declared.accepted.AcceptedMessage.{AcceptedMessage}
use Rattle.bsc_table.specs.declared.table.Kept.{Kept}
use Rattle.bsc_table.specs.declared.accepted.Place.{Place}
use Rattle.bsc_table.specs.Record.{place_after}
use Rattle.bsc_table.specs.Accepted.{accepted_of}
use Rattle.bsc_table.specs.Transitions.{entry_by}
use Rattle.bsc_table.specs.BookSteps.{HasRoom, IsLater, IsReplacement, place_found, left_by}
use Rattle.bsc_table.proofs.Cell.PlanOfTable.{few_places}
use Rattle.bsc_table.proofs.Cell.Entered.{replaces, takes_over}
use Rattle.bsc_table.proofs.book.CellBook.take_over.Goals as goal

pub replace-requires-clause-replacement : goal.replace-requires-clause-replacement
replace-requires-clause-replacement c =
    let r = c.args.self.now in
    let old : Kept = c.args.old.now in
    let write = c.requires.write in
    let done : ℕ = completed (accepted_of old.message).message r.air r.clock in
    let back = sym c.is_background.ensures ∙ c.if-is_background.true in
    replaces r old c.args.new.now done write.replaced c.args.command.now c.requires.asked.legal write.live
    c.requires.offered (λ front. absurd (false≢true (sym front ∙ back))) write.write

pub replace-requires-in-Ok-clause-replacement : goal.replace-requires-in-Ok-clause-replacement
replace-requires-in-Ok-clause-replacement c =
    let r = c.args.self.now in
    let old : Kept = c.args.old.now in
    let write = c.requires.write in
    let done : ℕ = completed (accepted_of old.message).message r.air r.clock in
    let room = subst (HasRoom (left_by r (accepted_of old.message)) r.clock) c.load.ensures c.in-Ok.ensures.fits in
    replaces r old c.args.new.now done write.replaced c.args.command.now c.requires.asked.legal write.live
    c.requires.offered (λ _. room) write.write

pub replace-requires-in-Some-clause-replacement : goal.replace-requires-in-Some-clause-replacement
replace-requires-in-Some-clause-replacement c =
    let r = c.args.self.now in
    let old : Kept = c.args.old.now in
    let new : AcceptedMessage = c.args.new.now in
    let place : Place = c.in-Some.place in
    let write = c.requires.write in
    let done : ℕ = completed (accepted_of old.message).message r.air r.clock in
    let left = left_by r (accepted_of old.message) in
    let later : IsLater r (accepted_of old.message) c.load-in-Err-Load.result (Some place) = subst
    (IsLater r (accepted_of old.message) c.load-in-Err-Load.result) c.in-Some.is c.later_place.ensures in
    let Over : ℕ → Type 0 = λ load. place_after left r.clock (accepted_of old.message) load
    ≡ Some (place_found place) in
    let over = subst Over c.load-in-Err-Load.ensures later.there in
    let full = c.in-Err-Load.is ∙ ap (λ (x : NoRoom). Err x) c.in-Err-Load.field-0-is in
    let room = few_places left r.clock c.load.result c.room_without.result c.room_without.ensures full in
    let front = sym c.is_background.ensures ∙ c.if-is_background.false in
    let Replaces : AcceptedMessage → Type 0 = λ m. IsReplacement r
    (entry_by r c.args.command.now (answers.Replaced m.start done)) (accepted_of old.message) (accepted_of m) in
    subst Replaces (sym c.waiting_at.ensures) (takes_over r old new place done write.replaced c.args.command.now
    c.requires.asked.legal write.live c.requires.offered room front over later.fits write.write)
