use Rattle.std.proofs.Common.{◌≡◌, ◌≤◌, ◌<◌, length, refl, ap, subst, sym, ◌∙◌, inl, inr, arith}
use Rattle.std.proofs.lemmas.Bool.{le-leb, lt-leb, cond-true, cond-false}
use Rattle.bsc_table.specs.declared.entry.Answer.TheVariants as answers
use Rattle.bsc_table.specs.declared.entry.Answer.{Answer}
use Rattle.bsc_table.specs.declared.entry.Entry.{Entry}
use Rattle.bsc_table.specs.Record.{Record}
use Rattle.bsc_table.specs.Answer.{answer_of}
use Rattle.bsc_table.specs.Legal.{IsLegal}
use Rattle.bsc_table.specs.Transitions.{entry_by, has_entry}
use Rattle.bsc_table.specs.Book.{record_of}
use Rattle.bsc_table.specs.BookSteps.{IsNextEntry}
use Rattle.bsc_table.proofs.History.HasEntry.{has_entry-with_room}
use Rattle.bsc_table.proofs.Cell.WithEntry.{IsLegal-with}
use Rattle.bsc_table.proofs.book.CellBook.apply.Goals as goal

pub returns-in-Ok-clause-legal : goal.returns-in-Ok-clause-legal
returns-in-Ok-clause-legal c =
    let r : Record = c.args.self.now in
    let e : Entry = entry_by r c.args.command.now c.in-Ok.answer in
    let Room : Record → Type 0 = λ x. length x.log < 4096 in
    let room : Room (record_of c.self.inside) =
    omega (arith, c.len.ensures, c.self.inside.log.ok.0, c.if-len-ge-MAX_ENTRIES.false) in
    let legal = subst IsLegal c.self.view_is c.self.invariant.legal in
    let next : IsNextEntry r e = record {
      now = refl;
      room = subst Room c.self.view_is room;
      formed = c.requires;
      right = c.in-Ok.ensures.0;
    } in
    subst IsLegal (sym c.in-Ok.ensures.1) (IsLegal-with r e legal next)

pub returns-in-Ok-clause-entered : goal.returns-in-Ok-clause-entered
returns-in-Ok-clause-entered c =
    let r : Record = c.args.self.now in
    let command = c.args.command.now in
    let answer : Answer = c.in-Ok.answer in
    let has = ap has_entry c.in-Ok.ensures.0 ∙ has_entry-with_room r.slots r.log r.air r.clock command in
    c.in-Ok.ensures.1 ∙ sym (cond-true _ _ _ has)

-- a full log
pub returns-then-len-ge-MAX_ENTRIES-clause-step : goal.returns-then-len-ge-MAX_ENTRIES-clause-step
returns-then-len-ge-MAX_ENTRIES-clause-step c =
    let Full : Record → Type 0 = λ x. 4096 ≤ length x.log in
    let full : Full (record_of c.self.inside) =
    omega (arith, c.len.ensures, c.self.inside.log.ok.0, c.if-len-ge-MAX_ENTRIES.true) in (
      answers.Cause 0x08,
      inr (sym (cond-true _ _ _ (le-leb 4096 (length c.args.self.now.log) (subst Full c.self.view_is full)))),
      refl,
    )

-- the right answer
pub returns-in-Ok-clause-step : goal.returns-in-Ok-clause-step
returns-in-Ok-clause-step c =
    let r : Record = c.args.self.now in
    let command = c.args.command.now in
    let answer : Answer = c.in-Ok.answer in
    let Room : Record → Type 0 = λ x. length x.log < 4096 in
    let room : Room (record_of c.self.inside) =
    omega (arith, c.len.ensures, c.self.inside.log.ok.0, c.if-len-ge-MAX_ENTRIES.false) in
    let right : answer ≡ answer_of r.slots r.log r.air r.clock command = c.in-Ok.ensures.0
    ∙ sym (cond-false _ _ _ (lt-leb 4096 (length r.log) (subst Room c.self.view_is room))) in
    let has = ap has_entry c.in-Ok.ensures.0 ∙ has_entry-with_room r.slots r.log r.air r.clock command in
    (answer, inr right, c.in-Ok.ensures.1 ∙ sym (cond-true _ _ _ has))

-- out of memory
pub returns-in-Err-clause-step : goal.returns-in-Err-clause-step
returns-in-Err-clause-step c = (answers.Refused, inl refl, c.in-Err.ensures)
