use Rattle.std.proofs.Common.{◌∙◌, List, sym, subst}
use Rattle.order_desk.specs.declared.note.Note.{Note}
use Rattle.session_check.specs.NotedSteps.{AreStanding, commands_in}
use Rattle.session_check.proofs.Standing.{pass_stands}
use Rattle.session_check.proofs.sessions.is_right_pass.Goals as goal

pub is_pass_of_session-requires-clause-standing : goal.is_pass_of_session-requires-clause-standing
is_pass_of_session-requires-clause-standing c =
    let pass : List Note = c.index-passes-place.result in
    subst (λ (notes : List Note). AreStanding c.args.records.now (commands_in notes))
    (sym (c.notes-notes.ensures ∙ c.index-passes-place.is))
    (pass_stands c.args.passes.now c.args.records.now c.args.place pass c.requires.within c.requires.agree)
