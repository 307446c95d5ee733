use Rattle.std.proofs.Common.{◌∙◌, ap, List}
use Rattle.verification.specs.declared.row.Row.{Row}
use Rattle.verification.specs.FoundSteps.{text_of_found}
use Rattle.verification.proofs.FoundLaws.{table-is}
use Rattle.verification.proofs.findings.Findings.table.Goals as goal

pub returns : goal.returns
returns c = λ layout records tapes taken.
    table-is layout records c.args.self.now tapes c.in_ok-rows.rows.items c.in_ok-text.text.items taken
    c.in_ok-rows.ensures.found
    (c.in_ok-text.ensures ∙ ap (λ (rows : List Row). text_of_found c.args.self.now rows) c.deref.ensures.value)
