use Rattle.std.proofs.Common.{◌≡◌, ◌∙◌, ◌+◌, List, [], ◌∷◌, ◌++◌, All, get_or, drop, sym, subst, ap}
use Rattle.std.proofs.lemmas.List.{drop_more, map-append, take-append-drop, take_more}
use Rattle.std.proofs.lemmas.List.Elements.{All-push}
use Rattle.cbsp_wire.specs.declared.message.Cell.{Cell}
use Rattle.bsc_table.specs.declared.entry.Answer.{Answer}
use Rattle.order_desk.specs.Reply.{IsAnswerTo, cells_answered}
use Rattle.session_check.specs.NotedSteps.{AreAnswersNoted, commands_in}
use Rattle.session_check.proofs.Noted.{noted_more, noted_past}
use Rattle.session_check.proofs.Standing.{left_stand}
use Rattle.session_check.proofs.answers.answers_in.Goals as goal

pub returns-in_default-clause-none : goal.returns-in_default-clause-none
returns-in_default-clause-none c = λ given left same are.
    let cells = c.args.cells.now in
    let place = c.loop-cell.cell-index in
    let d : Cell = record { lac = 0; ci = 0 } in
    let done = c.loop-cell.answers.items in
    let split : cells ≡ cells_answered done ++ get_or cells place d ∷ drop (place + 1) cells =
    sym (take-append-drop place cells)
    ∙ ap (λ (cs : List Cell). cs ++ drop place cells) (sym c.loop-cell.invariant.answered)
    ∙ ap (λ (cs : List Cell). cells_answered done ++ cs) (drop_more cells place d c.loop-cell-test.true) in
    let past = noted_past c.args.records.now c.args.at c.args.command.now done given (get_or cells place d)
    (drop (place + 1) cells) (commands_in c.args.notes.now) (commands_in c.loop-cell.left.now) left
    c.loop-cell.invariant.noted are (same ∙ split) in
    c.in_default.ensures.none past.0 past.1 past.2

pub loop-cell-preserved : goal.loop-cell-preserved
loop-cell-preserved c =
    let cells = c.args.cells.now in
    let place = c.loop-cell.cell-index in
    let d : Cell = record { lac = 0; ci = 0 } in
    let cell = get_or cells place d in
    let answer = c.in-Some.answer in
    let done = c.loop-cell.answers.items in
    let fits : Cell × Answer → Type 0 = λ a. IsAnswerTo c.args.command.now a.1 in
    let items = c.in_ok-push.ensures.items in record {
      answered = ap cells_answered items ∙ map-append (λ (a : Cell × Answer). a.0) done ((cell, answer) ∷ [])
          ∙ ap (λ (cs : List Cell). cs ++ cell ∷ []) c.loop-cell.invariant.answered
          ∙ sym (take_more cells place d c.loop-cell-test.true);
      fit = subst (All fits) (sym items)
          (All-push fits done (cell, answer) c.loop-cell.invariant.fit c.in-Some.ensures.fit);
      noted = subst (λ (given : List (Cell × Answer)). AreAnswersNoted c.args.records.now c.args.at
          c.args.command.now given (commands_in c.args.notes.now) (commands_in c.in-Some.rest.now)) (sym items)
          (noted_more c.args.records.now c.args.at c.args.command.now done (cell, answer)
          (commands_in c.args.notes.now) (commands_in c.loop-cell.left.now) (commands_in c.in-Some.rest.now)
          c.loop-cell.invariant.noted c.in-Some.ensures.noted);
      standing = left_stand c.args.records.now c.args.at c.args.command.now (cell, answer)
          (commands_in c.loop-cell.left.now) (commands_in c.in-Some.rest.now) c.in-Some.ensures.noted
          c.loop-cell.invariant.standing;
    }
