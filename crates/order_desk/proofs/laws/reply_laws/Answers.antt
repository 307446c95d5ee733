use Rattle.std.proofs.Common.{◌∷◌}
use Rattle.std.proofs.lemmas.List.Elements.{filter_map-append}
use Rattle.bsc_table.specs.declared.entry.Answer.TheVariants as answers
use Rattle.order_desk.specs.Reply.{cell_by, count_by, failure_by}
use Rattle.order_desk.proofs.GivenAnswers.{given_answer}
use Rattle.order_desk.proofs.Writable.{absent, failure_names}
use Rattle.order_desk.proofs.laws.reply_laws.Goals as goal

pub returns-clause-refusals_are_listed : goal.returns-clause-refusals_are_listed
returns-clause-refusals_are_listed c = λ cell cause before after.
    filter_map-append (λ a. failure_by a.0 a.1) before ((cell, answers.Cause cause) ∷ after)

pub returns-clause-stops_are_counted : goal.returns-clause-stops_are_counted
returns-clause-stops_are_counted c = λ cell completed before after.
    filter_map-append (λ a. count_by a.0 a.1) before ((cell, answers.Stopped completed) ∷ after)

pub returns-clause-accepted_are_listed : goal.returns-clause-accepted_are_listed
returns-clause-accepted_are_listed c = λ cell slot before after.
    filter_map-append (λ a. cell_by a.0 a.1) before ((cell, answers.Started slot) ∷ after)

pub returns-clause-replaced_are_counted : goal.returns-clause-replaced_are_counted
returns-clause-replaced_are_counted c = λ cell slot completed before after.
    filter_map-append (λ a. count_by a.0 a.1) before ((cell, answers.Replaced slot completed) ∷ after)

pub returns-clause-cells_answer_their_commands : goal.returns-clause-cells_answer_their_commands
returns-clause-cells_answer_their_commands c = given_answer

pub returns-clause-others_are_not_refused : goal.returns-clause-others_are_not_refused
returns-clause-others_are_not_refused c = λ cell xs h.
    absent (λ a. failure_by a.0 a.1) (λ f. f.cell) cell xs (λ a. failure_names a.0 a.1) h
