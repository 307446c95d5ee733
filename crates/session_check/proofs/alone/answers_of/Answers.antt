use Rattle.std.proofs.Common.{◌≡◌, ◌∙◌, ◌+◌, ◌∷◌, [], ◌++◌, List, ap, drop, get_or, subst, sym}
use Rattle.std.proofs.lemmas.List.{drop_more, map-append, take-append-drop, take_more}
use Rattle.cbsp_wire.specs.declared.message.Cell.{Cell}
use Rattle.bsc_table.specs.declared.entry.Answer.{Answer}
use Rattle.order_desk.specs.Reply.{cells_answered}
use Rattle.session_check.specs.AloneSteps.{HaveAnsweredFrom, HaveRoomFor}
use Rattle.session_check.proofs.Served.{answered_more, room_for_first}
use Rattle.session_check.proofs.alone.answers_of.Goals as goal

pub answer_of-requires-clause-room : goal.answer_of-requires-clause-room
answer_of-requires-clause-room g c κs within =
    let named = c.args.named.now in
    let place = c.loop-cell.cell-index in
    let d : Cell = record { lac = 0; ci = 0 } in
    let cell = get_or named place d in
    let later = drop (place + 1) named in
    let left : drop place named ≡ cell ∷ later = drop_more named place d c.loop-cell-test.true in
    let split : named ≡ cells_answered c.loop-cell.answers.items ++ cell ∷ later =
    sym (take-append-drop place named)
    ∙ ap (λ (cells : List Cell). cells ++ drop place named) (sym c.loop-cell.invariant.named)
    ∙ ap (λ (cells : List Cell). cells_answered c.loop-cell.answers.items ++ cells) left in
    room_for_first cell later c.loop-cell.books (c.loop-cell.invariant.answered.room (cell ∷ later)
    (subst (λ (cells : List Cell). HaveRoomFor cells c.args.books.now) split c.requires.room))

pub loop-cell-preserved : goal.loop-cell-preserved
loop-cell-preserved g c =
    let cells = c.args.cells.now in
    let named = c.args.named.now in
    let place = c.loop-cell.cell-index in
    let d : Cell = record { lac = 0; ci = 0 } in
    let cell = get_or named place d in
    let answer = c.in_ok-answer.answer in
    let done = c.loop-cell.answers.items in
    let items = c.in_ok-push.ensures.items in record {
      named = ap cells_answered items ∙ map-append (λ (a : Cell × Answer). a.0) done ((cell, answer) ∷ [])
          ∙ ap (λ (cs : List Cell). cs ++ cell ∷ []) c.loop-cell.invariant.named
          ∙ sym (take_more named place d c.loop-cell-test.true);
      answered = subst (λ (given : List (Cell × Answer)). HaveAnsweredFrom cells c.args.at c.args.command.now given
          c.args.books.now c.answer_of.new.books) (sym items)
          (answered_more cells c.args.at c.args.command.now done (cell, answer) c.args.books.now c.loop-cell.books
          c.answer_of.new.books c.loop-cell.invariant.answered c.in_ok-answer.ensures);
    }
