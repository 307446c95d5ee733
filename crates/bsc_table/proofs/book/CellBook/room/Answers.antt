use Rattle.std.proofs.Common.{List, subst, sym, ap, ◌∙◌}
use Rattle.admission.specs.declared.budget.Held.{Held}
use Rattle.admission.specs.Table.{room_answer_for}
use Rattle.bsc_table.specs.Record.{Record, claims_in}
use Rattle.bsc_table.specs.Book.{record_of}
use Rattle.bsc_table.specs.BookSteps.{IsRoom}
use Rattle.bsc_table.proofs.Cell.PlanOfTable.{room_now}
use Rattle.bsc_table.proofs.book.CellBook.room.Goals as goal

pub returns : goal.returns
returns c =
    let book = c.self.invariant in
    let r : Record = record_of c.self.inside in
    let load = c.args.load in
    let Room : Record → Type 0 = λ x. IsRoom (claims_in x.log) x.clock load c.fits.result in
    let asked = c.fits.ensures ∙ ap (λ (l : List Held). room_answer_for l load) book.held in
    subst Room c.self.view_is (subst (IsRoom (claims_in r.log) r.clock load) (sym asked) (room_now r load book.legal))
