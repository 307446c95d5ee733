use Rattle.std.proofs.Common.{◌≡◌, ◌∙◌, true, sym, subst}
use Rattle.cbsp_wire.specs.declared.message.Cell.{Cell}
use Rattle.cbsp_wire.specs.Range.{is_cell}
use Rattle.bsc_table.specs.declared.command.Command.{Command}
use Rattle.order_desk.specs.declared.note.Note.{Note}
use Rattle.order_desk.specs.Reply.{IsAnswerTo}
use Rattle.order_desk.specs.ReplyLaws.{IsOrdered}
use Rattle.cbsp_wire.proofs.CellLists.{same_cell}
use Rattle.session_check.specs.NotedSteps.{StandsIn}
use Rattle.session_check.proofs.Standing.{answer_fits}
use Rattle.session_check.proofs.answers.answer_noted.Goals as goal

pub returns-then-is_entry_of-clause-fit : goal.returns-then-is_entry_of-clause-fit
returns-then-is_entry_of-clause-fit c =
    let r = c.args.history.now in
    let entry = c.in-Event.entry in
    let same = same_cell c.args.cell c.in-Event.of (sym c.eq.ensures ∙ c.if-eq.true) in
    let own : is_cell c.in-Event.of r.cell ≡ true =
    subst (λ (cell : Cell). is_cell cell r.cell ≡ true) same c.requires.own in
    let stands = subst (λ (note : Note). StandsIn note r) c.in-Event.is c.requires.stands own in
    let is = c.is_entry_of.ensures.0 c.if-is_entry_of.true in
    subst (λ (command : Command). IsAnswerTo command entry.answer) is.ordered
    (answer_fits c.reply_laws.ensures.cells_answer_their_commands r c.in-Event.number entry c.slots-legal.ensures.legal
    stands (subst IsOrdered (sym is.ordered) c.requires.ordered))
