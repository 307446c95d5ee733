use Rattle.std.proofs.Common.{◌≡◌, ◌∙◌, List, Ok, Some, sym, subst, ap}
use Rattle.cbsp_wire.specs.declared.message.Cell.{Cell}
use Rattle.cbsp_wire.specs.declared.message.Failure.{Failure}
use Rattle.reply_outcome.specs.Replies.{outcome_with}
use Rattle.bsc_table.specs.Orders.{order_of}
use Rattle.order_desk.specs.Reply.{accepting_cells, refused_in}
use Rattle.session_check.specs.AloneSteps.{HaveRoomFor}
use Rattle.session_check.proofs.Noted.{some_of}
use Rattle.session_check.proofs.OrderSays.{order_says, orders_are_one}
use Rattle.session_check.proofs.alone.turn_of.Goals as goal

pub answers_of-requires-clause-room : goal.answers_of-requires-clause-room
answers_of-requires-clause-room g c κs within =
    let ordered = c.requires.order in
    let read = some_of (λ found. order_of c.args.request.now.message ≡ Ok (found.0.items, found.1))
    c.in_ok-named.field-0 (c.in-Some.named, c.in-Some.command) c.in-Some.is c.in_ok-named.ensures.some in
    let same = (orders_are_one c.args.request.now.message ordered.cells c.in-Some.named.items ordered.command
    c.in-Some.command ordered.order read).0 in
    subst (λ (cells : List Cell). HaveRoomFor cells c.args.books.now) (same ∙ sym c.deref.ensures.value) ordered.room

pub returns : goal.returns
returns g c =
    let message = c.args.request.now.message in
    let command = c.in-Some.command in
    let given = c.in_ok-answers.answers.items in
    let said = c.in_ok-said.said in
    let read = some_of (λ found. order_of message ≡ Ok (found.0.items, found.1)) c.in_ok-named.field-0
    (c.in-Some.named, command) c.in-Some.is c.in_ok-named.ensures.some in
    let answered = c.in_ok-answers.ensures.answered in
    let says = (order_says message c.in-Some.named.items command read).says given answered.fit in
    let accepted = c.in_ok-said.ensures.accepted ∙ ap accepting_cells c.deref-2.ensures.value in
    let refused = c.in_ok-said.ensures.refused ∙ ap refused_in c.deref-2.ensures.value in record {
      command = command;
      answers = given;
      order = subst (λ (cells : List Cell). order_of message ≡ Ok (cells, command))
          (sym (c.in_ok-answers.ensures.named ∙ c.deref.ensures.value)) read;
      answered = answered;
      told = ap (λ (cells : List Cell). Some (outcome_with cells said.refused)) accepted
          ∙ ap (λ (failures : List Failure). Some (outcome_with (accepting_cells given) failures)) refused ∙ sym says;
    }
