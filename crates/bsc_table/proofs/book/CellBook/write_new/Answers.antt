use Rattle.std.proofs.Common.{subst, sym, ◌∙◌}
use Rattle.std.proofs.lemmas.Bool.{false≢true}
use Rattle.bsc_table.specs.Record.{claims_in}
use Rattle.bsc_table.specs.BookSteps.{HasRoom}
use Rattle.bsc_table.proofs.Cell.Entered.{starts}
use Rattle.bsc_table.proofs.book.CellBook.write_new.Goals as goal

pub start-requires-in-Ok-clause-start : goal.start-requires-in-Ok-clause-start
start-requires-in-Ok-clause-start c =
    let room = subst (HasRoom (claims_in c.args.self.now.log) c.args.self.now.clock) c.load.ensures
    c.in-Ok.ensures.fits in
    starts c.args.self.now c.args.new.now c.args.command.now c.requires.offered (λ _. room) c.requires.write

pub start-requires-clause-start : goal.start-requires-clause-start
start-requires-clause-start c =
    let back = sym c.is_background.ensures ∙ c.if-is_background.true in
    starts c.args.self.now c.args.new.now c.args.command.now c.requires.offered
    (λ front. absurd (false≢true (sym front ∙ back))) c.requires.write
