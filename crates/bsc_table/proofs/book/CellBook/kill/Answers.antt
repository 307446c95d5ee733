use Rattle.std.proofs.Common.{ℕ, subst, sym}
use Rattle.scheduler.specs.Completed.{completed}
use Rattle.bsc_table.specs.declared.command.Command.{Command}
use Rattle.bsc_table.specs.declared.entry.Answer.TheVariants as answers
use Rattle.bsc_table.specs.declared.table.Kept.{Kept}
use Rattle.bsc_table.specs.Accepted.{accepted_of}
use Rattle.bsc_table.specs.Transitions.{entry_by}
use Rattle.bsc_table.specs.BookSteps.{IsStop}
use Rattle.bsc_table.proofs.Cell.Entered.{kills}
use Rattle.bsc_table.proofs.book.CellBook.kill.Goals as goal

pub stop-requires-clause-stop : goal.stop-requires-clause-stop
stop-requires-clause-stop c =
    let r = c.args.self.now in
    let old : Kept = c.in-Some.kept in
    let done : ℕ = completed (accepted_of old.message).message r.air r.clock in
    let Stops : Command → Type 0 = λ x. IsStop r (entry_by r x (answers.Stopped done)) (accepted_of old.message) in
    subst Stops (sym c.requires.kill) (kills r c.args.id c.args.serial done old c.requires.asked.legal
    c.in-Some.ensures)
