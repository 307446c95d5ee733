use Rattle.std.proofs.Common.{◌≡◌, ◌∙◌, All, refl, sym, subst}
use Rattle.std.proofs.lemmas.List.Elements.{All-head}
use Rattle.std.proofs.lemmas.Option.{none-some}
use Rattle.order_desk.specs.declared.note.Note.{Note}
use Rattle.book_runs.specs.Run.{is_among}
use Rattle.book_runs.specs.Sessions.{IsNoteOf}
use Rattle.session_check.specs.NotedSteps.{AreStanding, StandsIn, asked_at, record_cells, commands_in}
use Rattle.session_check.proofs.Found.{among_found, note_by_all, note_by_one, of_found}
use Rattle.session_check.proofs.Noted.{clash, first_same}
use Rattle.session_check.proofs.answers.answer_in.Goals as goal

pub answer_noted-requires-clause-stands : goal.answer_noted-requires-clause-stands
answer_noted-requires-clause-stands c =
    let records = c.args.records.now in
    let note : Note = c.in-Some-next_command.note.now in
    of_found (StandsIn note) records c.args.cell c.in-Some.record.now c.in-Some.ensures.some
    (All-head (λ (n : Note). All (StandsIn n) records) note (commands_in c.in-Some-next_command.rest.now)
    (subst (AreStanding records) c.in-Some-next_command.ensures.some c.requires.standing))

pub returns-in-Some-answer_noted-clause-noted : goal.returns-in-Some-answer_noted-clause-noted
returns-in-Some-answer_noted-clause-noted c =
    let records = c.args.records.now in
    let r = c.in-Some.record.now in
    let note : Note = c.in-Some-next_command.note.now in
    let found = c.in-Some.ensures.some in
    let answer = c.in-Some-answer_noted.answer in record {
      own = λ _. (
        note,
        c.in-Some-next_command.ensures.some,
        note_by_all records c.args.cell r c.args.at c.args.command.now note answer found
            ((c.in-Some-answer_noted.ensures.noted answer).0 refl),
      );
      foreign = λ foreign. absurd (clash (is_among (record_cells records) c.args.cell)
          (among_found records c.args.cell r found) foreign);
    }

pub returns-in-None-clause-none : goal.returns-in-None-clause-none
returns-in-None-clause-none c = λ answer left is.
    let records = c.args.records.now in
    let r = c.in-Some.record.now in
    let note : Note = c.in-Some-next_command.note.now in
    let found = c.in-Some.ensures.some in
    let own = is.own (among_found records c.args.cell r found) in
    let same : own.0 ≡ note =
    first_same own.0 note left (commands_in c.in-Some-next_command.rest.now)
    (sym own.1 ∙ c.in-Some-next_command.ensures.some) in
    let noted = subst (IsNoteOf records (c.args.cell, asked_at c.args.at c.args.command.now answer)) same own.2 in
    none-some answer ((c.in-None.ensures.noted answer).1
    (note_by_one records c.args.cell r c.args.at c.args.command.now note answer found noted))
