use Rattle.std.proofs.Common.{ℕ, ◌==◌, cond, Option, Some, None, List, subst, sym, ap, ◌∙◌}
use Rattle.std.proofs.lemmas.List.Elements.{All-contains}
use Rattle.admission.specs.declared.budget.Held.{Held}
use Rattle.admission.specs.Reservation.{end_of_stopped}
use Rattle.admission.specs.Table.{room_answer_for, remaining_without}
use Rattle.bsc_table.specs.Claim.{stop_claims}
use Rattle.bsc_table.specs.Record.{Record, Accepted, accepted_in, claims_in}
use Rattle.bsc_table.specs.Accepted.{accepted_of}
use Rattle.bsc_table.specs.Book.{record_of}
use Rattle.bsc_table.specs.BookSteps.{IsLiveIn, IsRoom}
use Rattle.bsc_table.proofs.History.LegalIsSound.{HasLoad, IsSound-legal}
use Rattle.bsc_table.proofs.Cell.PlanOfTable.{room_after_stop}
use Rattle.bsc_table.proofs.book.CellBook.room_without.Goals as goal

pub leaving_at-requires : goal.leaving_at-requires
leaving_at-requires c =
    let r : Record = record_of c.self.inside in
    let a : Accepted = accepted_of c.args.old.now in
    let live = subst (λ x. IsLiveIn x a) (sym c.self.view_is) c.requires in
    (All-contains HasLoad (accepted_in r.log) a ((IsSound-legal r c.self.invariant.legal).loaded) live.there).1

pub returns : goal.returns
returns c =
    let book = c.self.invariant in
    let r : Record = record_of c.self.inside in
    let a : Accepted = accepted_of c.args.old.now in
    let load : ℕ = c.args.load in
    let live = subst (λ x. IsLiveIn x a) (sym c.self.view_is) c.requires in
    let asked = c.fits.ensures ∙ ap (λ (leaving : Option ℕ). room_answer_for
    (remaining_without leaving c.self.inside.budget) load) c.leaving_at.ensures
    ∙ ap (λ (l : List Held). room_answer_for (remaining_without
    (cond (end_of_stopped a.message.start a.message.period r.clock == r.clock) (Some a.message.entry) None) l)
    load) book.held in
    let Room : Record → Type 0 = λ x. IsRoom (stop_claims a.message.entry x.clock (claims_in x.log)) x.clock load
    c.fits.result in
    subst Room c.self.view_is (subst (IsRoom (stop_claims a.message.entry r.clock (claims_in r.log)) r.clock load)
    (sym asked) (room_after_stop r load a book.legal live))
