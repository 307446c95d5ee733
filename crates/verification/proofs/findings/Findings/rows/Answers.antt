use Rattle.std.proofs.Common.{◌≡◌, ◌∙◌, ◌++◌, ap}
use Rattle.std.specs.List.{flat_map}
use Rattle.verification.specs.Found.{FindingsState}
use Rattle.verification.specs.FoundSteps.{rows_of_found, rows_of_state}
use Rattle.verification.proofs.FoundLaws.{rows-are}
use Rattle.verification.proofs.findings.Findings.rows.Goals as goal

same : (c : goal.In_ok-extend_from_slice) → c.extend_from_slice.new.self.items ≡ rows_of_found c.args.self.now
same c =
    c.in_ok-extend_from_slice.ensures.items
    ∙ ap (λ rows. rows ++ c.deref-2.result.now) c.in_ok-rows.ensures
    ∙ ap (λ cells. flat_map rows_of_state cells ++ c.deref-2.result.now) c.deref.ensures.value
    ∙ ap (λ others. flat_map rows_of_state c.self.inside.cells.items ++ others) c.deref-2.ensures.value
    ∙ ap (λ (f : FindingsState). flat_map rows_of_state f.cells ++ f.others) c.self.view_is

pub returns-clause-taken : goal.returns-clause-taken
returns-clause-taken c = λ layout records tapes taken.
    rows-are layout records c.args.self.now tapes c.extend_from_slice.new.self.items taken (same c)

pub returns-clause-found : goal.returns-clause-found
returns-clause-found c = same c
