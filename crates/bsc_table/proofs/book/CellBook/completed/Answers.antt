use Rattle.std.proofs.Common.{◌≡◌, subst, sym}
use Rattle.std.specs.List.{Contains}
use Rattle.scheduler.specs.Completed.{completed}
use Rattle.bsc_table.specs.Record.{Record, Accepted, accepted_in, messages_in}
use Rattle.bsc_table.specs.Accepted.{accepted_of}
use Rattle.bsc_table.specs.Book.{record_of}
use Rattle.bsc_table.proofs.Cell.PlanOfTable.{known_to_plan, completed_of_it}
use Rattle.bsc_table.proofs.book.CellBook.completed.Goals as goal

pub done-requires : goal.done-requires
done-requires c =
    let book = c.self.invariant in
    let r : Record = record_of c.self.inside in
    let a : Accepted = accepted_of c.args.message.now in
    let There : Record → Type 0 = λ x. Contains (accepted_in x.log) a in
    known_to_plan c.self.inside.plan r.log r.air a book.follows (subst There (sym c.self.view_is) c.requires)

pub returns : goal.returns
returns c =
    let book = c.self.invariant in
    let r : Record = record_of c.self.inside in
    let a : Accepted = accepted_of c.args.message.now in
    let There : Record → Type 0 = λ x. Contains (accepted_in x.log) a in
    let Told : Record → Type 0 = λ x. c.done.result ≡ completed a.message x.air x.clock in
    let says = c.done.ensures (messages_in r.log) r.air book.follows in
    subst Told c.self.view_is (completed_of_it r.log r.air r.clock c.done.result a book.legal.played
    (subst There (sym c.self.view_is) c.requires) says)
