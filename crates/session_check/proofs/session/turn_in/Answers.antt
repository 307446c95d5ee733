use Rattle.std.proofs.Common.{◌≡◌, ◌∙◌, All, List, Ok, Some, sym, subst, ap}
use Rattle.cbsp_wire.specs.declared.message.Cell.{Cell}
use Rattle.cbsp_wire.specs.declared.message.Failure.{Failure}
use Rattle.reply_outcome.specs.Replies.{outcome_with}
use Rattle.bsc_table.specs.declared.command.Command.{Command}
use Rattle.bsc_table.specs.Orders.{order_of}
use Rattle.order_desk.specs.Reply.{IsAnswerTo, accepting_cells, cells_answered, refused_in}
use Rattle.session_check.specs.NotedSteps.{AreAnswersNoted, commands_in}
use Rattle.session_check.proofs.Noted.{none_of, some_of}
use Rattle.session_check.proofs.OrderSays.{order_says, orders_are_one}
use Rattle.session_check.proofs.session.turn_in.Goals as goal

pub returns-in_default-clause-none : goal.returns-in_default-clause-none
returns-in_default-clause-none c = λ command answers left order noted.
    none_of c.in_ok-cells.field-0 c.in_default.is c.in_ok-cells.ensures.none (cells_answered answers) command order

pub returns-in_default-2-clause-none : goal.returns-in_default-2-clause-none
returns-in_default-2-clause-none c = λ command answers left order noted.
    let message = c.args.request.now.message in
    let read = some_of (λ found. order_of message ≡ Ok (found.0.items, found.1)) c.in_ok-cells.field-0
    (c.in-Some.cells, c.in-Some.command) c.in-Some.is c.in_ok-cells.ensures.some in
    let same = orders_are_one message (cells_answered answers) c.in-Some.cells.items command c.in-Some.command order
    read in
    none_of c.in_ok-answers.field-0 c.in_default-2.is c.in_ok-answers.ensures.none answers left
    (same.0 ∙ sym c.deref.ensures.value)
    (subst (λ (asked : Command). AreAnswersNoted c.args.records.now c.args.request.now.at asked answers
    (commands_in c.args.notes.now) left) same.1 noted)

pub answers_in-requires-clause-ordered : goal.answers_in-requires-clause-ordered
answers_in-requires-clause-ordered c =
    let message = c.args.request.now.message in
    let read = some_of (λ found. order_of message ≡ Ok (found.0.items, found.1)) c.in_ok-cells.field-0
    (c.in-Some.cells, c.in-Some.command) c.in-Some.is c.in_ok-cells.ensures.some in
    (order_says message c.in-Some.cells.items c.in-Some.command read).ordered

pub returns-clause-some : goal.returns-clause-some
returns-clause-some c =
    let message = c.args.request.now.message in
    let command = c.in-Some.command in
    let given = c.in-Some-2.answers.items in
    let said = c.in_ok-said.said in
    let read = some_of (λ found. order_of message ≡ Ok (found.0.items, found.1)) c.in_ok-cells.field-0
    (c.in-Some.cells, command) c.in-Some.is c.in_ok-cells.ensures.some in
    let answered = some_of (λ found. cells_answered found.0.items ≡ c.deref.result.now) c.in_ok-answers.field-0
    (c.in-Some-2.answers, c.in-Some-2.rest) c.in-Some-2.is c.in_ok-answers.ensures.answered in
    let fit = some_of (λ found. All (λ a. IsAnswerTo command a.1) found.0.items) c.in_ok-answers.field-0
    (c.in-Some-2.answers, c.in-Some-2.rest) c.in-Some-2.is c.in_ok-answers.ensures.fit in
    let says = (order_says message c.in-Some.cells.items command read).says given fit in
    let accepted = c.in_ok-said.ensures.accepted ∙ ap accepting_cells c.deref-2.ensures.value in
    let refused = c.in_ok-said.ensures.refused ∙ ap refused_in c.deref-2.ensures.value in record {
      command = command;
      answers = given;
      order = subst (λ (cells : List Cell). order_of message ≡ Ok (cells, command))
          (sym (answered ∙ c.deref.ensures.value)) read;
      noted = some_of (λ found. AreAnswersNoted c.args.records.now c.args.request.now.at command found.0.items
          (commands_in c.args.notes.now) (commands_in found.1.now)) c.in_ok-answers.field-0
          (c.in-Some-2.answers, c.in-Some-2.rest) c.in-Some-2.is c.in_ok-answers.ensures.noted;
      told = ap (λ (cells : List Cell). Some (outcome_with cells said.refused)) accepted
          ∙ ap (λ (failures : List Failure). Some (outcome_with (accepting_cells given) failures)) refused ∙ sym says;
    }
